use Rattle.sal_build.proofs.NamedModules.{modules_are_named}
use Rattle.sal_build.proofs.laws.modules_are_named.Goals as goal

pub returns : goal.returns
returns c = modules_are_named
