use Rattle.sal_build.proofs.DistinctIdentities.{identity_names_differ}
use Rattle.sal_build.proofs.laws.identity_names_differ.Goals as goal

pub returns : goal.returns
returns c = identity_names_differ
