-- The rows make the same tree, and are as many.
use Rattle.std.proofs.Common.{◌≡◌, length}
use Rattle.sal_data.specs.Read.{in_order}
use Rattle.sal_data.proofs.order.partial_insertion_sort.Given as goal

abbrev pub invariant-loop-place : goal.invariant-loop-place
invariant-loop-place l = (in_order l.rows.items ≡ in_order l.initial.rows.items) × (length l.rows.items ≡ length l.initial.rows.items)
