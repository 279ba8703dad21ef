-- The targets so far.
use Rattle.std.proofs.Common.{◌≡◌, ◌-◌, map, take}
use Rattle.sal_grouping.specs.Indexes.{lists}
use Rattle.sal_module_table.specs.Filled.{node_type}
use Rattle.sal_module_table.proofs.fill.+type_in.Given as goal

abbrev pub invariant-loop-target : goal.invariant-loop-target
invariant-loop-target l = l.types.items ≡ map (node_type l.own (lists l.edges) (l.steps - 1)) (take l.target-index l.target-items)

abbrev pub decreases-type_in : goal.decreases-type_in
decreases-type_in l = l.steps
