-- What the stamps of an edited tree say about touches.
use Rattle.std.specs.Prelude.{◌≡◌, ◌≢◌, ℕ, Bool, true, false, List, Some}
use Rattle.sal_types.specs.declared.value.Step.{Step}
use Rattle.sal_node.specs.Tree.{Tree}
use Rattle.sal_tree.specs.Grow.{at}

-- the one stamp s
abbrev pub exactly : ℕ → ℕ → Type 0
exactly s k = k ≡ s

-- The tree u was made from the tree t: a touched node has one of the new stamps, and where nothing was touched the node, with all
-- below it, is the same as before, or absent as before.
pub record Follows (IsNew : ℕ → Type 0) (touched : List Step → Bool) (t u : Tree) : Type 0 where
  pub stamped : (p : List Step) (n : Tree) → touched p ≡ true → at (Some u) p ≡ Some n → IsNew n.stamp
  pub kept : (p : List Step) → touched p ≡ false → at (Some u) p ≡ at (Some t) p

-- each node of the tree has the stamp
abbrev pub IsStamped : ℕ → Tree → Type 0
IsStamped s t = (p : List Step) (n : Tree) → at (Some t) p ≡ Some n → n.stamp ≡ s

-- no node of the tree has the stamp
abbrev pub HasNo : ℕ → Tree → Type 0
HasNo s t = (p : List Step) (n : Tree) → at (Some t) p ≡ Some n → n.stamp ≢ s

-- two nodes at one path with one stamp are the same, with all that is below them
abbrev pub Agree : Tree → Tree → Type 0
Agree t u = (p : List Step) (n m : Tree) → at (Some t) p ≡ Some n → at (Some u) p ≡ Some m → n.stamp ≡ m.stamp → n ≡ m
