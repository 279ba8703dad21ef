use Rattle.sal_build.proofs.Extending.{versions_extend}
use Rattle.sal_build.proofs.laws.versions_extend.Goals as goal

pub returns : goal.returns
returns c = versions_extend
