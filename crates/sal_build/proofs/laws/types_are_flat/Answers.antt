use Rattle.sal_build.proofs.FlatTypes.{types_are_flat}
use Rattle.sal_build.proofs.laws.types_are_flat.Goals as goal

pub returns : goal.returns
returns c = types_are_flat
