use Rattle.sal_build.proofs.DistinctNodes.{data_names_differ}
use Rattle.sal_build.proofs.laws.data_names_differ.Goals as goal

pub returns : goal.returns
returns c = data_names_differ
