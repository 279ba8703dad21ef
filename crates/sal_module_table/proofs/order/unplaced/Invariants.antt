-- How many there are.
use Rattle.std.proofs.Common.{◌≡◌, length}
use Rattle.sal_module_table.proofs.order.unplaced.Given as goal

abbrev pub invariant-loop-i : goal.invariant-loop-i
invariant-loop-i l = length l.order.items ≡ l._i
