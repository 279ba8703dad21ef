use Rattle.std.proofs.Common.{◌≡◌, take, map}
use Rattle.sal_grouping.specs.Expand.{branch_of}
use Rattle.sal_grouping.proofs.whole.branches_of.Given as goal

abbrev pub invariant-loop-node : goal.invariant-loop-node
invariant-loop-node l = l.list.items ≡ map (branch_of l.rows) (take l.node-index l.nodes)
