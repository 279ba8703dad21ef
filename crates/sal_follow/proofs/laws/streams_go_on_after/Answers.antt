use Rattle.sal_follow.proofs.Exporting.{goes-on-after}
use Rattle.sal_follow.proofs.laws.streams_go_on_after.Goals as goal

pub returns : goal.returns
returns c = goes-on-after
