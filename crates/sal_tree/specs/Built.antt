-- The properties of a node that was built from rows.
use Rattle.std.specs.Prelude.{◌≡◌, ℕ, ◌+◌, ◌≤◌, List}
use Rattle.sal_types.specs.declared.row.Row.{Row}
use Rattle.sal_node.specs.Tree.{Tree, IsGrove, height}
use Rattle.sal_tree.specs.Rows.{rows_of}
use Rattle.sal_tree.specs.Follows.{IsStamped}

-- The node, d steps below the root, has the rows, and it and all nodes below it have the stamp s.
pub record IsBuilt (s d : ℕ) (rows : List Row) (t : Tree) : Type 0 where
  pub listed : rows_of t ≡ rows
  pub ordered : IsGrove t.kids
  pub low : height t.kids + d ≤ 32
  pub stamped : IsStamped s t
