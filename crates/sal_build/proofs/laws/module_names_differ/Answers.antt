use Rattle.sal_build.proofs.DistinctModules.{module_names_differ}
use Rattle.sal_build.proofs.laws.module_names_differ.Goals as goal

pub returns : goal.returns
returns c = module_names_differ
