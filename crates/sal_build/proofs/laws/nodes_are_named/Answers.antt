use Rattle.sal_build.proofs.NamedNodes.{nodes_are_named}
use Rattle.sal_build.proofs.laws.nodes_are_named.Goals as goal

pub returns : goal.returns
returns c = nodes_are_named
