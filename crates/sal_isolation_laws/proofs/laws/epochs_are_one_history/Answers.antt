use Rattle.sal_isolation_laws.proofs.Epochs.{epochs_are_one_history}
use Rattle.sal_isolation_laws.proofs.laws.epochs_are_one_history.Goals as goal

pub returns : goal.returns
returns c = epochs_are_one_history
