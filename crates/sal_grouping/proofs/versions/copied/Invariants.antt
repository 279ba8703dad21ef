use Rattle.std.proofs.Common.{◌≡◌, take}
use Rattle.sal_grouping.proofs.versions.copied.Given as goal

abbrev pub invariant-loop-node : goal.invariant-loop-node
invariant-loop-node l = l.list.items ≡ take l.node-index l.nodes
