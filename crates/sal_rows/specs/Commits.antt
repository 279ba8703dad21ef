-- The commits of a domain: the trees at them, which paths they touch, and which stay unchanged.
-- A commit is the list of its operations; commits are numbered from 1, and 0 is the opening.
use Rattle.std.specs.Prelude.{ℕ, zero, suc, ◌+◌, ◌-◌, Bool, false, not, ◌&&◌, ◌||◌, List, [], ◌∷◌, take, find, reverse, Option, Some, None, slice_get, if◌then◌else◌}
use Rattle.std.specs.List.{fold, list_any}
use Rattle.sal_types.specs.declared.value.Store.{Store}
use Rattle.sal_types.specs.declared.value.Step.{Step}
use Rattle.sal_types.specs.declared.row.Row.{Row}
use Rattle.sal_types.specs.Tree.{has}
use Rattle.sal_rows.specs.declared.clash.Span.{Span}
use Rattle.sal_rows.specs.declared.op.Op.{Op}
use Rattle.sal_rows.specs.declared.outcome.ClashKind.{ClashKind}
use Rattle.sal_rows.specs.declared.outcome.ClashKind.TheVariants.{Changed, Created, Deleted}
use Rattle.sal_rows.specs.Apply.{apply_ops}
use Rattle.sal_rows.specs.Touch.{touches}

-- the tree of the store after one more commit
abbrev pub next_tree : Store → List Row → List Op → List Row
next_tree s tree ops = apply_ops tree s ops

-- the tree of the store after the commits
abbrev pub tree_after : Store → List Row → List (List Op) → List Row
tree_after s tree commits = fold (next_tree s) tree commits

-- the n numbers after a
abbrev pub numbers_after : ℕ → ℕ → List ℕ
numbers_after a zero = []
numbers_after a (suc n) = (a + 1) ∷ numbers_after (a + 1) n

-- the commits in a span
abbrev pub numbers_in : Span → List ℕ
numbers_in span = numbers_after span.from (span.to - span.from)

-- a commit touches p: one of its puts or merges has a row under p, or one of its operations sets a row under p that
-- exists before
abbrev pub commit_touches : List Row → Store → List Step → Option (List Op) → Bool
commit_touches before s p None = false
commit_touches before s p (Some ops) = touches before s ops p

-- whether a path is unchanged, by whether it was present, is present, and was touched
abbrev pub unchanged_by : Bool → Bool → Bool → Bool
unchanged_by was is touched = (not was && not is) || ((was && is) && not touched)

-- how such a path differs
abbrev pub kind_by : Bool → Bool → ClashKind
kind_by was is = if not was then Created else (if is then Changed else Deleted)

module _ (opening : Store → List Row) (commits : List (List Op)) where
  -- the tree of the store at commit k
  abbrev pub tree_at : Store → ℕ → List Row
  tree_at s k = tree_after s (opening s) (take k commits)

  -- commit k touches p
  abbrev pub touches_at : Store → List Step → ℕ → Bool
  touches_at s p k = commit_touches (tree_at s (k - 1)) s p (slice_get commits (k - 1))

  -- p is absent at both ends of the span, or present at both and touched by no commit in it
  abbrev pub is_unchanged : Store → List Step → Span → Bool
  is_unchanged s p span = unchanged_by (has (tree_at s span.from) p) (has (tree_at s span.to) p) (list_any (touches_at s p) (numbers_in span))

  -- the last commit in the span that touches p
  abbrev pub last_touch : Store → List Step → Span → Option ℕ
  last_touch s p span = find (touches_at s p) (reverse (numbers_in span))

  -- how p differs at the ends of a span over which it is not unchanged
  abbrev pub kind_over : Store → List Step → Span → ClashKind
  kind_over s p span = kind_by (has (tree_at s span.from) p) (has (tree_at s span.to) p)
