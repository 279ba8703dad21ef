use Rattle.std.proofs.Common.{length}
use Rattle.sal_check.proofs.unique.+cells_at.Given as goal

abbrev pub decreases-cells_at : goal.decreases-cells_at
decreases-cells_at l = length l.ways.now
