-- Which commit a conflict names.
use Rattle.std.specs.Prelude.{◌≡◌, ◌≤◌, ℕ, true, List, ◌∷◌, length, take, Option, None, Some, Any, slice_get}
use Rattle.sal_types.specs.declared.value.Store.{Store}
use Rattle.sal_types.specs.declared.row.Row.{Row}
use Rattle.sal_rows.specs.declared.op.Op.{Op}
use Rattle.sal_rows.specs.Apply.{rows_of_act}
use Rattle.sal_rows.specs.Commits.{tree_at}
use Rattle.sal_rows.specs.declared.clash.Rules.{Rules}
use Rattle.sal_rows.specs.declared.clash.Span.{Span}
use Rattle.sal_rows.specs.PathClash.{Difference, IsNamedIn}
use Rattle.sal_rows.specs.declared.clash.Clash.{Clash}
use Rattle.sal_rows.specs.Clash.{checks_leafs, clash, is_leaf, path_by}
use Rattle.sal_rows.specs.Quiet.{AreSpans, with_own}

-- the place and the commit of a conflict of the operation
abbrev pub place_of : Op → Clash → Difference
place_of op c = record { store = op.store; path = take c.depth (path_by op c.row); kind = c.kind; commit = c.commit }

-- The place of a conflict: a prefix of the operation's path; or, if the conflict has a row, the whole path of a leaf in the data
-- of a merge, under version rules 2.
abbrev pub IsPlaced : Rules → Op → ℕ → Option ℕ → Type 0
IsPlaced rules op depth None = depth ≤ length op.path
IsPlaced rules op depth (Some i) =
    (checks_leafs rules op.act ≡ true) × ((row : Row) × (slice_get (rows_of_act op.act) i ≡ Some row) × (is_leaf row.cell ≡ true) × (depth ≡ length row.path))

-- Each conflict is of one of the operations, at a prefix of its path, or at a leaf that it merges, and names a commit of
-- one of the spans that touched the place. The base is the tree at the start of the first span with the transaction's own commits.
abbrev pub NamesALaterCommit : Type 0
NamesALaterCommit =
    (opening : Store → List Row) (commits : List (List Op)) (rules : Rules) (base : Store → List Row) (span : Span) (spans : List Span) (ops : List Op) (c : Clash)
    → AreSpans (length commits) span spans
    → ((s : Store) → base s ≡ with_own commits s (tree_at opening commits s span.from) spans)
    → clash opening commits rules base (span ∷ spans) ops ≡ Some c
    → (op : Op) × (slice_get ops c.op ≡ Some op) × IsPlaced rules op c.depth c.row × Any (IsNamedIn opening commits (place_of op c)) (span ∷ spans)
