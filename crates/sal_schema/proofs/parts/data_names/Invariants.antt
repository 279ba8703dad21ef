-- The names so far and those of what is left are all names.
use Rattle.std.proofs.Common.{◌≡◌, ◌++◌, drop}
use Rattle.sal_schema.specs.Names.{data_at}
use Rattle.sal_schema.specs.Table.{each_from}
use Rattle.sal_schema.proofs.parts.data_names.Given as goal

abbrev pub invariant-loop-i : goal.invariant-loop-i
invariant-loop-i l = l.list.items ++ each_from (data_at l.table) l.i (drop l.i l.nodes) ≡ each_from (data_at l.table) 0 l.nodes
