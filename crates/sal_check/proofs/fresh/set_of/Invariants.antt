-- The set has those so far.
use Rattle.std.proofs.Common.{take}
use Rattle.sal_check.specs.Uniques.{Holds, all_cells_in}
use Rattle.sal_check.proofs.fresh.set_of.Given as goal

abbrev pub invariant-loop-cells : goal.invariant-loop-cells
invariant-loop-cells l = Holds l.set (take l.cells-index (all_cells_in l.fresh))
