use Rattle.std.proofs.Common.{◌≡◌, ◌+◌, ◌-◌, ◌≤◌, length, drop}
use Rattle.sal_tree.specs.Rows.{from_depth, leading}
use Rattle.sal_tree.proofs.building.run_length.Given as goal

abbrev pub invariant-loop-count : goal.invariant-loop-count
invariant-loop-count l = record {
  run : leading l.step (from_depth l.depth l.rows) ≡ l.count + leading l.step (from_depth l.depth (drop l.count l.rows));
  bound : l.count ≤ length l.rows;
}

abbrev pub decreases-loop-count : goal.decreases-loop-count
decreases-loop-count l = length l.rows - l.count
