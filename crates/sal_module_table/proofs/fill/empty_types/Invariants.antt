-- The types so far.
use Rattle.std.proofs.Common.{◌≡◌, length}
use Rattle.sal_module_table.proofs.fill.empty_types.Given as goal

abbrev pub invariant-loop-i : goal.invariant-loop-i
invariant-loop-i l = length l.all.items ≡ l._i
