use Rattle.sal_follow.proofs.Exporting.{goes-on}
use Rattle.sal_follow.proofs.laws.streams_go_on.Goals as goal

pub returns : goal.returns
returns c = goes-on
