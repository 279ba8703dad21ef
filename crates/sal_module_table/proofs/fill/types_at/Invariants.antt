-- The types so far.
use Rattle.std.proofs.Common.{◌≡◌, map, take}
use Rattle.sal_module_table.specs.Filled.{type_at}
use Rattle.sal_module_table.proofs.fill.types_at.Given as goal

abbrev pub invariant-loop-k : goal.invariant-loop-k
invariant-loop-k l = l.types.items ≡ map (type_at l.all) (take l.k-index l.numbers)
