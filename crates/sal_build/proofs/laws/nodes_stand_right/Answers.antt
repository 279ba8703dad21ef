use Rattle.sal_build.proofs.RightPlaces.{nodes_stand_right}
use Rattle.sal_build.proofs.laws.nodes_stand_right.Goals as goal

pub returns : goal.returns
returns c = nodes_stand_right
