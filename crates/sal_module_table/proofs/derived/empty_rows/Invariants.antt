-- The lists so far.
use Rattle.std.proofs.Common.{◌≡◌, length}
use Rattle.sal_module_table.specs.Orders.{rows}
use Rattle.sal_module_table.proofs.derived.empty_rows.Given as goal

abbrev pub invariant-loop-i : goal.invariant-loop-i
invariant-loop-i l = length (rows l.all.items) ≡ l.i
