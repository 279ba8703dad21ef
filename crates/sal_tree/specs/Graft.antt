-- A graft of a view onto a tip.
use Rattle.std.specs.Prelude.{◌≡◌, ◌≢◌, ◌⊎◌, ℕ, Bool, true, false, List, ◌++◌, Option, Some}
use Rattle.sal_types.specs.declared.value.Step.{Step}
use Rattle.sal_types.specs.declared.value.Cell.{Cell}
use Rattle.sal_rows.specs.Apply.{cell_by}
use Rattle.sal_node.specs.Tree.{Tree}
use Rattle.sal_tree.specs.Grow.{at, cell_in}

-- The cells that the operations set at each path, and which paths they touch. Paths begin at a node.
abbrev pub Setting : Type 0
Setting = List Step → Option (Option Cell)

abbrev pub Touch : Type 0
Touch = List Step → Bool

-- The node g was made from the nodes v of the view and t of the tip: each cell is the one set, or else the tip's; a touched
-- node is the view's or has the fresh stamp, and every other node is the tip's.
pub record IsGrafted (fresh : ℕ) (set : Setting) (touched : Touch) (v t g : Option Tree) : Type 0 where
  pub cells : (r : List Step) → cell_in (at g r) ≡ cell_by (set r) (cell_in (at t r))
  pub stamped : (r : List Step) (n : Tree) → touched r ≡ true → at g r ≡ Some n → (at v r ≡ Some n) ⊎ (n.stamp ≡ fresh)
  pub kept : (r : List Step) → touched r ≡ false → at g r ≡ at t r

-- The view v was made from the base b, and tip and base agree.
pub record CanGraft (own : ℕ) (set : Setting) (touched : Touch) (b v t : Option Tree) : Type 0 where
  pub view_cells : (r : List Step) → cell_in (at v r) ≡ cell_by (set r) (cell_in (at b r))
  pub view_stamped : (r : List Step) (n : Tree) → touched r ≡ true → at v r ≡ Some n → n.stamp ≡ own
  pub view_kept : (r : List Step) → touched r ≡ false → at v r ≡ at b r
  pub base_other : (r : List Step) (n : Tree) → at b r ≡ Some n → n.stamp ≢ own
  pub agree : (r : List Step) (n m : Tree) → at b r ≡ Some n → at t r ≡ Some m → n.stamp ≡ m.stamp → n ≡ m
  pub unset : (r : List Step) → touched r ≡ false → cell_by (set r) (cell_in (at t r)) ≡ cell_in (at t r)
  pub above : (r w : List Step) → touched r ≡ false → touched (r ++ w) ≡ false
