use Rattle.sal_listen.proofs.Following.{batch-stays}
use Rattle.sal_listen.proofs.laws.batches_stay.Goals as goal

pub returns : goal.returns
returns c own trees more p from to same = batch-stays own trees more p from to same
