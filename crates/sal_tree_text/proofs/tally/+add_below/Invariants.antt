use Rattle.std.proofs.Common.{◌≡◌, ◌+◌, take}
use Rattle.sal_node.specs.Tree.{size_of}
use Rattle.sal_node.specs.Shape.{seen}
use Rattle.sal_tree_text.specs.Tallied.{rows_below, sum_below}
use Rattle.sal_tree_text.proofs.tally.+add_below.Given as goal

abbrev pub decreases-add_below : goal.decreases-add_below
decreases-add_below l = size_of l.node.now

abbrev pub invariant-loop-child : goal.invariant-loop-child
invariant-loop-child l = record {
  rows : l.tally.rows ≡ l.initial.tally.rows + rows_below (take l.child-index (seen l.child-items));
  sum : l.tally.sum ≡ l.initial.tally.sum + sum_below (take l.child-index (seen l.child-items));
}
