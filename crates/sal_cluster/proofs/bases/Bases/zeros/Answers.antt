-- Each is 0, and so is what is not there.
use Rattle.sal_cluster.proofs.Numbered.{all_zeros}
use Rattle.sal_cluster.proofs.bases.Bases.zeros.Goals as goal

pub returns : goal.returns
returns c = all_zeros 64
