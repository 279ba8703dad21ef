-- The parts of the tree, by names that proofs of other crates can use.
use Rattle.sal_grouping.specs.declared.rows.Row.{Row}
use Rattle.sal_grouping.specs.declared.node.Node.{Node}

abbrev pub TreeRow : Type 0
TreeRow = Row

abbrev pub TreeNode : Type 0
TreeNode = Node
