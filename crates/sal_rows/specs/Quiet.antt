-- What follows from no conflict: base and tip have the same rows at and below each path that is put or deleted, and at and below each
-- path that is read and not covered; and under version rules 2 the same cell at each leaf that is merged.
use Rattle.std.specs.Prelude.{◌≡◌, ℕ, ◌+◌, ◌-◌, ◌≤◌, true, false, List, [], ◌∷◌, length, take, None, Some, slice_get, unwrap_or}
use Rattle.sal_types.specs.declared.value.Store.{Store}
use Rattle.sal_types.specs.declared.value.Step.{Step}
use Rattle.sal_types.specs.declared.row.Row.{Row}
use Rattle.sal_types.specs.Prefix.{is_prefix}
use Rattle.sal_types.specs.Tree.{cell}
use Rattle.sal_rows.specs.declared.op.Op.{Op}
use Rattle.sal_rows.specs.Apply.{checks_path, is_read, apply_ops, rows_of_act}
use Rattle.sal_rows.specs.Commits.{tree_at}
use Rattle.sal_rows.specs.declared.clash.Rules.{Rules}
use Rattle.sal_rows.specs.declared.clash.Span.{Span}
use Rattle.sal_rows.specs.Clash.{checks_leafs, clash, is_leaf, last_touch_over, tip}
use Rattle.sal_rows.specs.PathClash.{is_covered}

-- two trees have the same cells at p and below it
abbrev pub SameBelow : List Step → List Row → List Row → Type 0
SameBelow p x y = (r : List Step) → is_prefix p r ≡ true → cell x r ≡ cell y r

-- No span ends before it starts. Each one but the first starts at the commit just after the one before, which is of the
-- transaction's own chain; the last one ends at the newest commit.
abbrev pub AreSpans : ℕ → Span → List Span → Type 0
AreSpans newest span [] = (span.from ≤ span.to) × (span.to ≡ newest)
AreSpans newest span (next ∷ spans) = (span.from ≤ span.to) × (next.from ≡ span.to + 1) × AreSpans newest next spans

-- the tree after the transaction's own commits, at the start of the spans
abbrev pub with_own : List (List Op) → Store → List Row → List Span → List Row
with_own commits s tree [] = tree
with_own commits s tree (span ∷ spans) = with_own commits s (apply_ops tree s (unwrap_or (slice_get commits (span.from - 1)) [])) spans

-- below each path that is put or deleted, two pairs of trees have the same cells
abbrev pub AreQuiet : (Store → List Row) → (Store → List Row) → List Op → Type 0
AreQuiet base tip [] = Unit {0}
AreQuiet base tip (op ∷ ops) = (checks_path op.act ≡ true → SameBelow op.path (base op.store) (tip op.store)) × AreQuiet base tip ops

-- below each path that is read, and that no earlier put or delete covers, two pairs of trees have the same cells
abbrev pub AreReadsQuiet : (Store → List Row) → (Store → List Row) → List Op → Type 0
AreReadsQuiet base tip ops =
    (i : ℕ) (op : Op) → slice_get ops i ≡ Some op → is_read op.act ≡ true → is_covered (take i ops) op.store op.path ≡ false → SameBelow op.path (base op.store) (tip op.store)

-- At the path of each leaf that a merge names, at or below its own path, two pairs of trees have the same cell; under version rules 1
-- there is no condition.
abbrev pub AreFresh : Rules → (Store → List Row) → (Store → List Row) → List Op → Type 0
AreFresh rules base tip [] = Unit {0}
AreFresh rules base tip (op ∷ ops) =
    (checks_leafs rules op.act ≡ true
    → (i : ℕ) (row : Row) → slice_get (rows_of_act op.act) i ≡ Some row → is_leaf row.cell ≡ true → is_prefix op.path row.path ≡ true
    → cell (base op.store) row.path ≡ cell (tip op.store) row.path)
    × AreFresh rules base tip ops

-- If the base is the tree at the start of the first span with the own commits, and there is no conflict.
abbrev pub NoClashIsQuiet : Type 0
NoClashIsQuiet =
    (opening : Store → List Row) (commits : List (List Op)) (rules : Rules) (base : Store → List Row) (span : Span) (spans : List Span) (ops : List Op)
    → AreSpans (length commits) span spans
    → ((s : Store) → base s ≡ with_own commits s (tree_at opening commits s span.from) spans)
    → clash opening commits rules base (span ∷ spans) ops ≡ None
    → AreQuiet base (tip opening commits) ops × AreFresh rules base (tip opening commits) ops × AreReadsQuiet base (tip opening commits) ops

-- And each path at which base and tip have different cells was touched by a commit in the spans: so the third test finds the first leaf of a
-- merge whose cells differ.
abbrev pub SameOrTouched : Type 0
SameOrTouched =
    (opening : Store → List Row) (commits : List (List Op)) (base : Store → List Row) (span : Span) (spans : List Span) (s : Store) (p : List Step)
    → AreSpans (length commits) span spans
    → ((t : Store) → base t ≡ with_own commits t (tree_at opening commits t span.from) spans)
    → last_touch_over opening commits (span ∷ spans) s p ≡ None
    → cell (base s) p ≡ cell (tip opening commits s) p
