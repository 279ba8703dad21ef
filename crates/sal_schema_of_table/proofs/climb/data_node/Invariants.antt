-- What is left to climb leads to the node.
use Rattle.std.proofs.Common.{◌≡◌, ◌-◌, length, not}
use Rattle.sal_schema.specs.Table.{closest, data_node}
use Rattle.sal_schema.specs.Kinds.{is_choice_or_case}
use Rattle.sal_schema_of_table.proofs.climb.data_node.Given as goal

abbrev pub invariant-loop-done : goal.invariant-loop-done
invariant-loop-done l = closest (λ kind. not (is_choice_or_case kind)) l.table (length l.table.nodes - l.done) l.here ≡ data_node l.table l.fn.from
