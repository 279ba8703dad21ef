use Rattle.sal_prepare.proofs.NextVersions.{epochs-read-on}
use Rattle.sal_prepare.proofs.laws.epochs_read_on.Goals as goal

pub returns : goal.returns
returns c = epochs-read-on
