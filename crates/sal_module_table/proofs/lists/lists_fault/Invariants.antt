-- The least fault of the nodes so far.
use Rattle.std.proofs.Common.{◌≡◌, take, None}
use Rattle.sal_module.specs.Faults.{least}
use Rattle.sal_grouping.proofs.Places.{numbered}
use Rattle.sal_module_table.specs.Lists.{node_faults}
use Rattle.sal_module_table.proofs.lists.lists_fault.Given as goal

abbrev pub invariant-loop-k : goal.invariant-loop-k
invariant-loop-k l = l.best ≡ least None (numbered (node_faults l.nodes.modules.now l.nodes.forest.now) 0 (take l.k l.nodes.forest.now))
