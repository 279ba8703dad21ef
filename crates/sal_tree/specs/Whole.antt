-- Which nodes may be the root of a tree.
use Rattle.std.specs.Prelude.{◌≤◌}
use Rattle.sal_node.specs.Tree.{Tree, IsGrove, height}

-- At every node the steps ascend, every node below the root has a cell or children, and none is more than 32
-- steps below the root.
pub record IsWhole (t : Tree) : Type 0 where
  pub ordered : IsGrove t.kids
  pub low : height t.kids ≤ 32
