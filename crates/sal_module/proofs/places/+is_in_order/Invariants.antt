-- The remaining elements.
use Rattle.std.proofs.Common.{◌≡◌, ◌-◌, drop}
use Rattle.sal_module.specs.Places.{all_before, is_in_order}
use Rattle.sal_module.proofs.places.+is_in_order.Given as goal

abbrev pub invariant-loop-i : goal.invariant-loop-i
invariant-loop-i l = all_before (is_in_order (l.levels - 1)) l.high l.subs ≡ all_before (is_in_order (l.levels - 1)) l.high (drop l.i l.subs)
