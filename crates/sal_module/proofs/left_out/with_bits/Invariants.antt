-- The remaining bits, with the next position, which is capped at 64.
use Rattle.std.proofs.Common.{◌≡◌, ℕ, drop, min}
use Rattle.sal_module.specs.Faults.{least}
use Rattle.sal_module.specs.LeftOut.{bit_faults}
use Rattle.sal_module.proofs.left_out.with_bits.Given as goal

abbrev pub invariant-loop-sub : goal.invariant-loop-sub
invariant-loop-sub l =
    (n : ℕ) × (l.next ≡ min 64 n)
    × (least l.initial.best (bit_faults l.number 0 l.subs) ≡ least l.best (bit_faults l.number n (drop l.sub-index l.subs)))
