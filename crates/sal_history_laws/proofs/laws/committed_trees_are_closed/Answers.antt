use Rattle.sal_history_laws.proofs.Commits.{logs_stay_closed}
use Rattle.sal_history_laws.proofs.laws.committed_trees_are_closed.Goals as goal

pub returns : goal.returns
returns c = logs_stay_closed
