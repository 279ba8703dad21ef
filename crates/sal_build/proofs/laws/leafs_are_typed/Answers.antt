use Rattle.sal_build.proofs.TypedLeafs.{leafs_are_typed}
use Rattle.sal_build.proofs.laws.leafs_are_typed.Goals as goal

pub returns : goal.returns
returns c = leafs_are_typed
