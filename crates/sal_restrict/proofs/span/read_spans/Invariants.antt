-- The parts that were read, before those that are left.
use Rattle.std.proofs.Common.{◌≡◌, ◌^◌, ◌==◌, length}
use Rattle.std.specs.List.{slice_split}
use Rattle.sal_restrict.specs.Readings.{parts_of, AreRead}
use Rattle.sal_restrict.specs.RangeTexts.{parts}
use Rattle.sal_restrict.proofs.Splits.{behind}
use Rattle.sal_restrict.proofs.span.read_spans.Given as goal

abbrev pub invariant-parts : goal.invariant-parts
invariant-parts l = record {
  value : parts l.digits l.outer (slice_split (λ c. c == 124) l.text) ≡ behind (parts_of (10 ^ l.digits) l.spans.items) (parts l.digits l.outer (slice_split (λ c. c == 124) l.rest));
  read : AreRead (10 ^ l.digits) l.spans.items;
}

abbrev pub decreases-parts : goal.decreases-parts
decreases-parts l = length l.rest
