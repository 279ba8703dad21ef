use Rattle.sal_versions.proofs.LoadVersion.{one_version}
use Rattle.sal_versions.proofs.laws.loads_have_one_version.Goals as goal

pub returns : goal.returns
returns c = one_version
