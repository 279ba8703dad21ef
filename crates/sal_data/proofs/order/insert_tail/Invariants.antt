-- The rows make the same tree.
use Rattle.std.proofs.Common.{◌≡◌, length}
use Rattle.sal_data.specs.Read.{in_order}
use Rattle.sal_data.proofs.order.insert_tail.Given as goal

abbrev pub invariant-loop-done : goal.invariant-loop-done
invariant-loop-done l = (in_order l.rows.items ≡ in_order l.initial.rows.items) × (length l.rows.items ≡ length l.initial.rows.items)
