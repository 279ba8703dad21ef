use Rattle.sal_build.proofs.Extending.{versions_extend}
use Rattle.sal_versions.proofs.VersionChain.{in_order}
use Rattle.sal_versions.proofs.laws.versions_are_in_order.Goals as goal

pub returns : goal.returns
returns c = in_order versions_extend
