-- What is left to climb leads to the list.
use Rattle.std.proofs.Common.{◌≡◌, ◌-◌, length}
use Rattle.sal_schema.specs.Table.{closest, list_above}
use Rattle.sal_schema.specs.Kinds.{is_list}
use Rattle.sal_schema_of_table.proofs.climb.list_above.Given as goal

abbrev pub invariant-loop-done : goal.invariant-loop-done
invariant-loop-done l = closest is_list l.table (length l.table.nodes - l.done) l.here ≡ list_above l.table l.number
