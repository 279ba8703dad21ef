use Rattle.std.proofs.Common.{◌-◌, length}
use Rattle.sal_tree.specs.Rows.{from_depth, other_rows}
use Rattle.sal_tree.proofs.Builds.{IsPartly}
use Rattle.sal_tree.proofs.building.+build.Given as goal

abbrev pub decreases-build : goal.decreases-build
decreases-build l = 32 - l.depth

abbrev pub invariant-loop-left : goal.invariant-loop-left
invariant-loop-left l = IsPartly l.stamp l.depth (other_rows (from_depth l.depth l.rows)) l.builder (from_depth l.depth l.left)

abbrev pub decreases-loop-left : goal.decreases-loop-left
decreases-loop-left l = length l.left
