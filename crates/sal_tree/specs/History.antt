-- Commits of one store, each made from the one before.
use Rattle.std.specs.Prelude.{◌≡◌, ◌⊎◌, ℕ, Bool, false, List, [], ◌∷◌, ◌||◌, ◌&&◌, not, if◌then◌else◌}
use Rattle.sal_types.specs.declared.value.Step.{Step}
use Rattle.sal_types.specs.declared.value.Store.{Store}
use Rattle.sal_types.specs.Tree.{has}
use Rattle.sal_rows.specs.declared.op.Op.{Op}
use Rattle.sal_rows.specs.Touch.{touches}
use Rattle.sal_node.specs.Tree.{Tree}
use Rattle.sal_tree.specs.Rows.{rows_of}
use Rattle.sal_tree.specs.Follows.{Follows}

abbrev pub IsOneOf : List ℕ → ℕ → Type 0
IsOneOf [] k = ⊥
IsOneOf (s ∷ stamps) k = (k ≡ s) ⊎ IsOneOf stamps k

-- a commit of a store: the stamps of its touched nodes, its operations and its tree
pub record Done : Type 0 where
  pub stamps : List ℕ
  pub ops : List Op
  pub tree : Tree

-- each commit follows the one before, the first one the tree t
abbrev pub IsHistory : Store → Tree → List Done → Type 0
IsHistory s t [] = Unit {0}
IsHistory s t (d ∷ ds) = Follows (IsOneOf d.stamps) (touches (rows_of t) s d.ops) t d.tree × IsHistory s d.tree ds

abbrev pub newest : Tree → List Done → Tree
newest t [] = t
newest t (d ∷ ds) = newest d.tree ds

-- the stamps of the last commit that touched the path, or the given ones
abbrev pub last_stamps : Store → List ℕ → Tree → List Done → List Step → List ℕ
last_stamps s before t [] p = before
last_stamps s before t (d ∷ ds) p = last_stamps s (if touches (rows_of t) s d.ops p then d.stamps else before) d.tree ds p

-- whether a commit touched the path
abbrev pub is_touched : Store → Tree → List Done → List Step → Bool
is_touched s t [] p = false
is_touched s t (d ∷ ds) p = touches (rows_of t) s d.ops p || is_touched s d.tree ds p

-- whether the path is absent before and after the commits, or present before and after and touched by none
abbrev pub is_unchanged : Store → Tree → List Done → List Step → Bool
is_unchanged s t ds p = if has (rows_of t) p then (has (rows_of (newest t ds)) p && not (is_touched s t ds p)) else not (has (rows_of (newest t ds)) p)

-- no commit gives the stamp
abbrev pub IsFresh : ℕ → List Done → Type 0
IsFresh stamp [] = Unit {0}
IsFresh stamp (d ∷ ds) = ¬ (IsOneOf d.stamps stamp) × IsFresh stamp ds
