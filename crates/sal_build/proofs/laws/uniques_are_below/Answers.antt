use Rattle.sal_build.proofs.Uniques.{uniques_are_below}
use Rattle.sal_build.proofs.laws.uniques_are_below.Goals as goal

pub returns : goal.returns
returns c = uniques_are_below
