-- What is left of the parts.
use Rattle.std.proofs.Common.{◌≡◌, ℕ, drop}
use Rattle.sal_restrict.specs.Ranges.{is_ascending}
use Rattle.sal_restrict.specs.Readings.{parts_of, AreRead}
use Rattle.sal_restrict.proofs.span.are_ascending.Given as goal

abbrev pub invariant-loop-i : goal.invariant-loop-i
invariant-loop-i l = (scale : ℕ) → AreRead scale l.spans → is_ascending (parts_of scale l.spans) ≡ is_ascending (parts_of scale (drop l.i l.spans))
