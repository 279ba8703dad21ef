-- The rows before the index rise.
use Rattle.std.proofs.Common.{take}
use Rattle.sal_types.specs.Tree.{IsAscending}
use Rattle.sal_data.proofs.order.rises.Given as goal

abbrev pub invariant-loop-i : goal.invariant-loop-i
invariant-loop-i l = IsAscending (take l.i l.rows)
