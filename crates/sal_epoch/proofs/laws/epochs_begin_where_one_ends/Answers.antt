use Rattle.sal_hub.proofs.NextEpoch.{opens-at-the-newest}
use Rattle.sal_epoch.proofs.laws.epochs_begin_where_one_ends.Goals as goal

pub returns : goal.returns
returns c = opens-at-the-newest
