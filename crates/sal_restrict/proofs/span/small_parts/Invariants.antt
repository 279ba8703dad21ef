-- The parts so far.
use Rattle.std.proofs.Common.{◌≡◌, ℕ, take, length}
use Rattle.sal_restrict.specs.Readings.{parts_of}
use Rattle.sal_restrict.proofs.span.small_parts.Given as goal

abbrev pub invariant-loop-span : goal.invariant-loop-span
invariant-loop-span l = record {
  value : (scale : ℕ) → l.list.items ≡ parts_of scale (take l.span-index l.spans);
  count : length l.list.items ≡ l.span-index;
}
