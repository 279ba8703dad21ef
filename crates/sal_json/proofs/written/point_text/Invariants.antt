-- The text of what is left is that of the whole.
use Rattle.std.proofs.Common.{◌≡◌}
use Rattle.sal_json.specs.Numerals.{point_text}
use Rattle.sal_json.proofs.written.point_text.Given as goal

abbrev pub invariant-loop-digits : goal.invariant-loop-digits
invariant-loop-digits l = point_text l.fn.digits l.fn.units ≡ point_text l.digits l.units

abbrev pub decreases-loop-digits : goal.decreases-loop-digits
decreases-loop-digits l = l.digits
