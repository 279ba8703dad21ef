-- Commits that were each made from the one before, by the stamps of their nodes.
use Rattle.std.specs.Prelude.{◌≡◌, ℕ, ◌+◌, ◌*◌, ◌<◌, ◌≤◌, List, length, All, Option, None, Some, slice_index_or, if◌then◌else◌}
use Rattle.sal_types.specs.declared.value.Store.{Store}
use Rattle.sal_types.specs.declared.value.Step.{Step}
use Rattle.sal_rows.specs.Touch.{touches}
use Rattle.sal_node.specs.Tree.{Tree, is_filled}
use Rattle.sal_tree.specs.Grow.{at}
use Rattle.sal_tree.specs.Follows.{Follows, exactly}
use Rattle.sal_tree.specs.declared.commit.Commit.{Commit}
use Rattle.sal_tree.specs.declared.commit.Pair.{Pair}
use Rattle.sal_graft.specs.Kept.{rows_in, tree_in}

-- the stamp of the nodes that a commit with this receipt touches
abbrev pub stamp_of : ℕ → ℕ
stamp_of receipt = receipt * 2 + 1

-- no node of the tree has a greater stamp
abbrev pub StampsUpTo : ℕ → Tree → Type 0
StampsUpTo stamp t = (p : List Step) (n : Tree) → at (Some t) p ≡ Some n → n.stamp ≤ stamp

abbrev pub BothUpTo : ℕ → Pair → Type 0
BothUpTo stamp trees = StampsUpTo stamp trees.config × StampsUpTo stamp trees.oper

-- no node of a commit has a greater stamp than the nodes that the commit touched
abbrev pub AreStamped : List Commit → Type 0
AreStamped commits = All (λ (c : Commit). BothUpTo (stamp_of c.receipt) c.trees) commits

-- The commit d was made from the commit c, for a later receipt: in each store the nodes that the operations of d touch have the stamp of its
-- receipt, and every other node is the same.
pub record IsMadeOf (c d : Commit) : Type 0 where
  pub later : c.receipt < d.receipt
  pub follows : (s : Store) → Follows (exactly (stamp_of d.receipt)) (touches (rows_in c.trees s) s d.ops.value) (tree_in c.trees s) (tree_in d.trees s)

-- each commit was made from the one before it
pub record AreFollowing (commits : List Commit) : Type 0 where
  pub made : (k : ℕ) (c d : Commit) → k + 1 < length commits → c ≡ slice_index_or commits k c → d ≡ slice_index_or commits (k + 1) d → IsMadeOf c d
  pub stamped : AreStamped commits

-- the node, if it has a row at or below it
abbrev pub filled : Option Tree → Option Tree
filled None = None
filled (Some t) = if is_filled t.cell t.kids then Some t else None
