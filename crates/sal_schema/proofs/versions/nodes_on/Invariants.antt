-- The older ones so far, and then all of them with what is left of the whole.
use Rattle.std.proofs.Common.{◌≡◌, ◌++◌, take, drop}
use Rattle.sal_schema.specs.Versions.{on}
use Rattle.sal_schema.proofs.versions.nodes_on.Given as goal

abbrev pub invariant-loop-node : goal.invariant-loop-node
invariant-loop-node l = l.list.items ≡ take l.node-index l.older

abbrev pub invariant-loop-i : goal.invariant-loop-i
invariant-loop-i l = l.list.items ++ drop l.i l.whole ≡ on l.older l.whole
