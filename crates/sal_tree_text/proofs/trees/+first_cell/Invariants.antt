use Rattle.sal_node.specs.Tree.{size_of}
use Rattle.sal_tree_text.proofs.trees.+first_cell.Given as goal

abbrev pub decreases-first_cell : goal.decreases-first_cell
decreases-first_cell l = size_of l.node.now
