use Rattle.sal_build.proofs.PlacedNames.{names_are_placed}
use Rattle.sal_build.proofs.laws.names_are_placed.Goals as goal

pub returns : goal.returns
returns c = names_are_placed
