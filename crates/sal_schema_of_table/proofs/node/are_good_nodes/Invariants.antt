-- The remaining elements.
use Rattle.std.proofs.Common.{◌≡◌, drop}
use Rattle.sal_schema.specs.Table.{all_from}
use Rattle.sal_schema_of_table.specs.Whole.{is_good_node}
use Rattle.sal_schema_of_table.proofs.node.are_good_nodes.Given as goal

abbrev pub invariant-loop-i : goal.invariant-loop-i
invariant-loop-i l = all_from (is_good_node l.table) l.i (drop l.i l.nodes) ≡ all_from (is_good_node l.table) 0 l.nodes
