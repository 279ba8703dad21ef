use Rattle.std.proofs.Common.{◌-◌, ◌≤◌, length}
use Rattle.sal_node.specs.Tree.{place}
use Rattle.sal_node.specs.Shape.{row_of}
use Rattle.sal_node.proofs.pages.place.Given as goal

abbrev pub invariant-loop-low : goal.invariant-loop-low
invariant-loop-low l = record {
  low : l.low ≤ place l.step (row_of l.children);
  high : place l.step (row_of l.children) ≤ l.high;
  bound : l.high ≤ length l.children;
}

abbrev pub decreases-loop-low : goal.decreases-loop-low
decreases-loop-low l = l.high - l.low
