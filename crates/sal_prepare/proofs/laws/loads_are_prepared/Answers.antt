-- The script of a load is prepared to its world.
use Rattle.sal_prepare.proofs.LoadWorld.{prepared}
use Rattle.sal_prepare.proofs.laws.loads_are_prepared.Goals as goal

pub returns : goal.returns
returns c = prepared c.loads_have_one_version.ensures
