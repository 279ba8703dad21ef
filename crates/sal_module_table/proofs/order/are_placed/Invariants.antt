-- The numbers so far.
use Rattle.std.proofs.Common.{◌<◌, ℕ, IsTrue}
use Rattle.sal_grouping.specs.Indexes.{lists}
use Rattle.sal_module_table.specs.Orders.{is_placed}
use Rattle.sal_module_table.proofs.order.are_placed.Given as goal

abbrev pub invariant-loop-i : goal.invariant-loop-i
invariant-loop-i l = (j : ℕ) → j < l.i → IsTrue (is_placed (lists l.edges) l.ranks l.order j)
