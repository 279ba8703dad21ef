use Rattle.sal_build.proofs.DistinctCalls.{call_names_differ}
use Rattle.sal_build.proofs.laws.call_names_differ.Goals as goal

pub returns : goal.returns
returns c = call_names_differ
