-- The changes between two trees at each path, and their order.
use Rattle.std.proofs.Common.{◌≡◌, Bool, true, false, List, [], ◌∷◌, Option, Some, None, map, refl, ap, sym, ◌∙◌, cond, if◌then◌else◌}
use Rattle.std.specs.Prelude.{T, not, is_some}
use Rattle.std.specs.List.{filter, fold}
use Rattle.std.specs.Option.{option_or}
use Rattle.std.specs.Ordering.{is_lt}
use Rattle.std.specs.FinMap.{find, is_sorted}
use Rattle.std.specs.FinMap.Entries.{below_all, same_entries}
use Rattle.sal_types.specs.declared.value.Step.{Step}
use Rattle.sal_types.specs.declared.value.Cell.{Cell}
use Rattle.sal_types.specs.declared.row.Row.{Row}
use Rattle.sal_types.specs.Order.{path_cmp, path_eq, path_cmp-IsTotalOrder, path_cmp-IsAntisymmetric}
use Rattle.sal_types.specs.Prefix.{is_prefix}
use Rattle.sal_types.specs.Tree.{cell, under, entries, IsAscending}
use Rattle.sal_types.proofs.Trees.{T-from_IsTrue}
pub use Rattle.sal_types.proofs.TrueParts.{first, second, both}
use Rattle.sal_rows.specs.Edits.{set_row}
use Rattle.sal_rows.specs.declared.change.Change.{Change}
use Rattle.sal_rows.specs.Changes.{same_cell, compared, changes, changes_under, change_at, differing}
use Rattle.sal_rows.proofs.Cells.{same_path, IsAscending-set_row, cell-set_rows, cell-filter, IsAscending-filter}

abbrev pub Rising : List Row → Type 0
Rising rows = T (is_sorted path_cmp (entries rows))

abbrev pub Behind : List Step → List Row → Type 0
Behind p rows = T (below_all path_cmp p (entries rows))

behind-first : (row : Row) (rows : List Row) → Rising (row ∷ rows) → Behind row.path rows
behind-first row rows h = first _ (is_sorted path_cmp (entries rows)) h

rising-rest : (row : Row) (rows : List Row) → Rising (row ∷ rows) → Rising rows
rising-rest row rows h = second (below_all path_cmp row.path (entries rows)) _ h

behind-rest : (p : List Step) (row : Row) (rows : List Row) → Behind p (row ∷ rows) → Behind p rows
behind-rest p row rows h = second (is_lt (path_cmp p row.path)) _ h

abbrev pub marks : List Change → List (List Step × (Option Cell × Option Cell))
marks [] = []
marks (c ∷ cs) = (c.path, (c.before, c.after)) ∷ marks cs

-- the paths of the changes strictly rise
abbrev pub Rises : List Change → Type 0
Rises cs = T (is_sorted path_cmp (marks cs))

abbrev pub Above : List Step → List Change → Type 0
Above p cs = T (below_all path_cmp p (marks cs))

pub change_at-find : (cs : List Change) (r : List Step) → change_at cs r ≡ find path_cmp r (marks cs)
change_at-find [] r = refl
change_at-find (c ∷ cs) r = ap (λ o. if path_eq r c.path then Some (c.before, c.after) else o) (change_at-find cs r)

changes_of : List (List Step × (Option Cell × Option Cell)) → List Change
changes_of [] = []
changes_of (e ∷ es) = record { path = e.0; before = e.1.0; after = e.1.1 } ∷ changes_of es

changes_of-marks : (cs : List Change) → changes_of (marks cs) ≡ cs
unfolding changes_of
changes_of-marks [] = refl
changes_of-marks (c ∷ cs) = ap (λ (l : List Change). c ∷ l) (changes_of-marks cs)

-- two lists that rise and say the same of each path are one
pub same_changes : (xs ys : List Change) → Rises xs → Rises ys → ((r : List Step) → change_at xs r ≡ change_at ys r) → xs ≡ ys
same_changes xs ys g h same =
    let e = same_entries path_cmp path_cmp-IsTotalOrder path_cmp-IsAntisymmetric (marks xs) (marks ys) g h (λ r. sym (change_at-find xs r) ∙ same r ∙ change_at-find ys r) in
    sym (changes_of-marks xs) ∙ ap changes_of e ∙ changes_of-marks ys

none_either : (z : Bool) (o : Option (Option Cell × Option Cell)) → o ≡ None → (if z then o else None) ≡ None
none_either true o e = e
none_either false o e = refl

at_filter : (b a rows : List Row) (r : List Step) → change_at (filter (λ c. not (same_cell c.before c.after)) (map (compared b a) rows)) r ≡ (if is_some (cell rows r) then differing (cell b r) (cell a r) else None)
at_filter b a [] r = refl
at_filter b a (row ∷ rows) r =
    let rest : List Change = filter (λ c. not (same_cell c.before c.after)) (map (compared b a) rows) in
    let ih : change_at rest r ≡ (if is_some (cell rows r) then differing (cell b r) (cell a r) else None) = at_filter b a rows r in
    elim (path_eq r row.path) as (λ e. path_eq r row.path ≡ e → change_at (filter (λ c. not (same_cell c.before c.after)) (map (compared b a) (row ∷ rows))) r ≡ (if is_some (if e then Some row.cell else cell rows r) then differing (cell b r) (cell a r) else None)) [
      | true ↦ λ e.
          ap (λ q. change_at (cond (not (same_cell (cell b q) (cell a q))) (record { path = row.path; before = cell b q; after = cell a q } ∷ rest) rest) r) (sym (same_path r row.path e))
          ∙ elim (same_cell (cell b r) (cell a r)) as (λ s. same_cell (cell b r) (cell a r) ≡ s → change_at (cond (not s) (record { path = row.path; before = cell b r; after = cell a r } ∷ rest) rest) r ≡ (if s then None else Some (cell b r, cell a r))) [
            | true ↦ λ s. ih ∙ none_either (is_some (cell rows r)) (differing (cell b r) (cell a r)) (ap (λ z. if z then None else Some (cell b r, cell a r)) s)
            | false ↦ λ s. ap (λ z. if z then Some (cell b r, cell a r) else change_at rest r) e
          ] refl
      | false ↦ λ e. elim (not (same_cell (cell b row.path) (cell a row.path))) as (λ s. change_at (cond s (compared b a row ∷ rest) rest) r ≡ (if is_some (cell rows r) then differing (cell b r) (cell a r) else None)) [
        | true ↦ ap (λ z. if z then Some (cell b row.path, cell a row.path) else change_at rest r) e ∙ ih
        | false ↦ ih
      ]
    ] refl

pub at-changes : (b a : List Row) (r : List Step) → IsAscending a → change_at (changes b a) r ≡ differing (cell b r) (cell a r)
at-changes b a r h = at_filter b a (fold set_row b a) r ∙ ap (λ o. if is_some o then differing (cell b r) (cell a r) else None) (cell-set_rows a b r h) ∙ by_cells (cell b r) (cell a r)
  where
    by_cells : (c d : Option Cell) → (if is_some (option_or d c) then differing c d else None) ≡ differing c d
    by_cells None None = refl
    by_cells None (Some d) = refl
    by_cells (Some c) None = refl
    by_cells (Some c) (Some d) = refl

above_filter : (b a : List Row) (p : List Step) (rows : List Row) → Behind p rows → Above p (filter (λ c. not (same_cell c.before c.after)) (map (compared b a) rows))
above_filter b a p [] h = tt
above_filter b a p (row ∷ rows) h = elim (not (same_cell (cell b row.path) (cell a row.path))) as (λ s. Above p (cond s (compared b a row ∷ filter (λ c. not (same_cell c.before c.after)) (map (compared b a) rows)) (filter (λ c. not (same_cell c.before c.after)) (map (compared b a) rows)))) [
  | true ↦ both _ _ (first (is_lt (path_cmp p row.path)) (below_all path_cmp p (entries rows)) h) (above_filter b a p rows (behind-rest p row rows h))
  | false ↦ above_filter b a p rows (behind-rest p row rows h)
]

rises_filter : (b a rows : List Row) → Rising rows → Rises (filter (λ c. not (same_cell c.before c.after)) (map (compared b a) rows))
rises_filter b a [] h = tt
rises_filter b a (row ∷ rows) h = elim (not (same_cell (cell b row.path) (cell a row.path))) as (λ s. Rises (cond s (compared b a row ∷ filter (λ c. not (same_cell c.before c.after)) (map (compared b a) rows)) (filter (λ c. not (same_cell c.before c.after)) (map (compared b a) rows)))) [
  | true ↦ both _ _ (above_filter b a row.path rows (behind-first row rows h)) (rises_filter b a rows (rising-rest row rows h))
  | false ↦ rises_filter b a rows (rising-rest row rows h)
]

ascending_set : (a b : List Row) → IsAscending b → IsAscending (fold set_row b a)
ascending_set [] b h = h
ascending_set (row ∷ a) b h = ascending_set a (set_row b row) (IsAscending-set_row b row h)

pub rises-changes : (b a : List Row) → IsAscending b → Rises (changes b a)
rises-changes b a h = rises_filter b a (fold set_row b a) (T-from_IsTrue _ (ascending_set a b h))

-- the changes at a path and below it, path by path
pub at-changes_under : (b a : List Row) (p r : List Step) → IsAscending a → change_at (changes_under b a p) r ≡ (if is_prefix p r then differing (cell b r) (cell a r) else None)
at-changes_under b a p r h =
    at-changes (under b p) (under a p) r (IsAscending-filter (is_prefix p) a h)
    ∙ (λ k. differing (cell-filter (is_prefix p) b r k) (cell-filter (is_prefix p) a r k))
    ∙ elim (is_prefix p r) as (λ z. differing (if z then cell b r else None) (if z then cell a r else None) ≡ (if z then differing (cell b r) (cell a r) else None)) [ true ↦ refl | false ↦ refl ]
