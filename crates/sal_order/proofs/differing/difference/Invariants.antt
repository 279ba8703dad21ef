-- The texts from the index on differ at the same place as the whole texts.
use Rattle.std.proofs.Common.{◌≡◌, ◌≤◌, drop, length}
use Rattle.sal_order.specs.Differences.{difference}
use Rattle.sal_order.proofs.differing.difference.Given as goal

abbrev pub invariant-loop-i : goal.invariant-loop-i
invariant-loop-i l = record {
  within : l.i ≤ length l.other;
  low : l.line ≤ l.i;
  same : difference l.line (drop l.i l.text) (drop l.i l.other) ≡ difference 0 l.text l.other;
}
