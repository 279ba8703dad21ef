-- The set has those so far, of which no two are the same.
use Rattle.std.proofs.Common.{◌≡◌, false, take}
use Rattle.sal_rules.specs.Rules.{has_double}
use Rattle.sal_check.specs.Uniques.{Holds, all_cells_in}
use Rattle.sal_check.proofs.unique.has_double.Given as goal

abbrev pub invariant-loop-cells : goal.invariant-loop-cells
invariant-loop-cells l = record {
  holds : Holds l.seen (take l.cells-index (all_cells_in l.combinations));
  none : has_double (take l.cells-index (all_cells_in l.combinations)) ≡ false;
}
