use Rattle.sal_build.proofs.Uniques.{keys_are_inside}
use Rattle.sal_build.proofs.laws.keys_are_inside.Goals as goal

pub returns : goal.returns
returns c = keys_are_inside
