-- The names so far and those of what is left are all names.
use Rattle.std.proofs.Common.{◌≡◌, ◌++◌, drop}
use Rattle.sal_schema.specs.Names.{module_at}
use Rattle.sal_schema.specs.Table.{each_from}
use Rattle.sal_schema.proofs.parts.module_names.Given as goal

abbrev pub invariant-loop-i : goal.invariant-loop-i
invariant-loop-i l = l.list.items ++ each_from module_at l.i (drop l.i l.modules) ≡ each_from module_at 0 l.modules
