-- Rows in the order of their paths, as a map holds them.
use Rattle.std.proofs.Common.{◌≡◌, ℕ, zero, suc, true, List, [], ◌∷◌, ◌++◌, take, fold, refl, ap, sym, ◌∙◌}
use Rattle.std.proofs.lemmas.Bool.{and_from}
use Rattle.std.proofs.lemmas.List.Sums.{fold-append}
use Rattle.std.specs.Ordering.{match_ordering, is_lt}
use Rattle.std.specs.declared.cmp.Ordering.TheVariants.{Less, Equal, Greater}
use Rattle.std.specs.BTreeMap.{insert_entry}
use Rattle.std.specs.FinMap.Entries.{below_all}
use Rattle.std.specs.Cmp.{first_so, second_so}
use Rattle.sal_types.specs.declared.value.Step.{Step}
use Rattle.sal_types.specs.declared.value.Cell.{Cell}
use Rattle.sal_types.specs.declared.row.Row.{Row}
use Rattle.sal_types.specs.Order.{path_cmp, path_cmp-IsAntisymmetric}
use Rattle.sal_types.specs.Tree.{entries, IsAscending}
use Rattle.sal_rows.specs.Edits.{set_row}
use Rattle.sal_rows.proofs.Cells.{IsAscending-set_row}
use Rattle.sal_data.specs.Read.{in_order}

-- ---- rows and their entries

abbrev pub rows_of : List (List Step × Cell) → List Row
rows_of [] = []
rows_of (e ∷ es) = record { path = e.0; cell = e.1 } ∷ rows_of es

pub rows_of-entries : (rows : List Row) → rows_of (entries rows) ≡ rows
rows_of-entries [] = refl
rows_of-entries (row ∷ rows) = ap (λ others. row ∷ others) (rows_of-entries rows)

-- rows with the same entries are the same
pub same_rows : (rows others : List Row) → entries rows ≡ entries others → rows ≡ others
same_rows rows others e = sym (rows_of-entries rows) ∙ ap rows_of e ∙ rows_of-entries others

pub entries-append : (rows others : List Row) → entries (rows ++ others) ≡ entries rows ++ entries others
entries-append [] others = refl
entries-append (row ∷ rows) others = ap (λ es. (row.path, row.cell) ∷ es) (entries-append rows others)

-- ---- a row that is put in its place

-- inserting in a map is putting the row in its place among its entries
pub entries-set_row : (rows : List Row) (row : Row) → entries (set_row rows row) ≡ insert_entry path_cmp (entries rows) row.path row.cell
entries-set_row [] row = refl
entries-set_row (x ∷ rows) row =
    elim (path_cmp row.path x.path) as (λ o. path_cmp row.path x.path ≡ o → entries (match_ordering o (row ∷ x ∷ rows) (row ∷ rows) (x ∷ set_row rows row)) ≡ match_ordering o ((row.path, row.cell) ∷ (x.path, x.cell) ∷ entries rows) ((x.path, row.cell) ∷ entries rows) ((x.path, x.cell) ∷ insert_entry path_cmp (entries rows) row.path row.cell)) [
      | Less ↦ λ e. refl
      | Equal ↦ λ e i. (path_cmp-IsAntisymmetric row.path x.path e i, row.cell) ∷ entries rows
      | Greater ↦ λ e. ap (λ es. (x.path, x.cell) ∷ es) (entries-set_row rows row)
    ] refl

-- ---- all of them

pub entries-in_order-more : (rows : List Row) (row : Row) → entries (in_order (rows ++ row ∷ [])) ≡ insert_entry path_cmp (entries (in_order rows)) row.path row.cell
entries-in_order-more rows row = ap entries (fold-append set_row [] rows (row ∷ [])) ∙ entries-set_row (in_order rows) row

IsAscending-fold : (tree rows : List Row) → IsAscending tree → IsAscending (fold set_row tree rows)
IsAscending-fold tree [] h = h
IsAscending-fold tree (row ∷ rows) h = IsAscending-fold (set_row tree row) rows (IsAscending-set_row tree row h)

pub IsAscending-in_order : (rows : List Row) → IsAscending (in_order rows)
IsAscending-in_order rows = IsAscending-fold [] rows refl

-- ---- the first of rows that rise

behind-take : (p : List Step) (n : ℕ) (rows : List Row) → below_all path_cmp p (entries rows) ≡ true → below_all path_cmp p (entries (take n rows)) ≡ true
behind-take p zero rows h = refl
behind-take p (suc n) [] h = refl
behind-take p (suc n) (row ∷ rows) h =
    and_from (is_lt (path_cmp p row.path)) _ (first_so (is_lt (path_cmp p row.path)) _ h) (behind-take p n rows (second_so (is_lt (path_cmp p row.path)) _ h))

pub ascending-take : (n : ℕ) (rows : List Row) → IsAscending rows → IsAscending (take n rows)
ascending-take zero rows h = refl
ascending-take (suc n) [] h = refl
ascending-take (suc n) (row ∷ rows) h =
    let behind : below_all path_cmp row.path (entries rows) ≡ true = first_so (below_all path_cmp row.path (entries rows)) _ h in
    let rest : IsAscending rows = second_so (below_all path_cmp row.path (entries rows)) _ h in
    and_from (below_all path_cmp row.path (entries (take n rows))) _ (behind-take row.path n rows behind) (ascending-take n rows rest)
