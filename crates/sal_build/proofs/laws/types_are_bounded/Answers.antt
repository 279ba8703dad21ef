use Rattle.sal_build.proofs.BoundedTypes.{types_are_bounded}
use Rattle.sal_build.proofs.laws.types_are_bounded.Goals as goal

pub returns : goal.returns
returns c = types_are_bounded
