-- Rows set in a tree at free places are additional rows of it.
use Rattle.std.proofs.Common.{◌≡◌, ℕ, ◌+◌, Bool, true, false, ◌||◌, List, [], ◌∷◌, length, Option, Some, None, refl, ap, ◌∙◌, arith, if◌then◌else◌}
use Rattle.std.proofs.lemmas.Bool.{or_parts}
use Rattle.std.specs.Prelude.{sum_by}
use Rattle.std.specs.List.{list_any}
use Rattle.std.specs.Option.{option_or}
use Rattle.std.specs.Ordering.{match_ordering, is_eq}
use Rattle.std.specs.declared.cmp.Ordering.TheVariants.{Less, Equal, Greater}
use Rattle.std.proofs.lemmas.List.Sums.{sum_by-cons}
use Rattle.sal_types.specs.declared.value.Cell.{Cell}
use Rattle.sal_types.specs.declared.value.Step.{Step}
use Rattle.sal_types.specs.declared.row.Row.{Row}
use Rattle.sal_types.specs.Order.{path_cmp, path_eq}
use Rattle.sal_types.specs.Tree.{cell, IsAscending}
use Rattle.sal_rows.specs.Apply.{set_cell, tree_of}
use Rattle.sal_rows.specs.Edits.{set_row}
use Rattle.sal_rows.proofs.Cells.{cell-set_row, IsAscending-set_row}

-- ---- tests that no row passes

none-set_row : (q : List Step → Bool) (tree : List Row) (row : Row) → q row.path ≡ false → list_any (λ x. q x.path) tree ≡ false → list_any (λ x. q x.path) (set_row tree row) ≡ false
none-set_row q [] row out none = ap (λ b. b || false) out
none-set_row q (x ∷ tree) row out none =
    let here : q x.path ≡ false = (or_parts (q x.path) (list_any (λ y. q y.path) tree) none).0 in
    let rest : list_any (λ y. q y.path) tree ≡ false = (or_parts (q x.path) (list_any (λ y. q y.path) tree) none).1 in
    elim (path_cmp row.path x.path) as (λ o. list_any (λ y. q y.path) (match_ordering o (row ∷ x ∷ tree) (row ∷ tree) (x ∷ set_row tree row)) ≡ false) [
      | Less ↦ rw (out, none) refl
      | Equal ↦ rw (out, rest) refl
      | Greater ↦ rw (here, none-set_row q tree row out rest) refl
    ]

none-set_cell : (q : List Step → Bool) (tree : List Row) (p : List Step) (c : Option Cell) → q p ≡ false → list_any (λ x. q x.path) tree ≡ false → list_any (λ x. q x.path) (set_cell tree p c) ≡ false
none-set_cell q tree p None out none = none
none-set_cell q tree p (Some c) out none = none-set_row q tree (record { path = p; cell = c }) out none

pub none-tree_of : (q : List Step → Bool) (f : List Step → Option Cell) (rows : List Row) → list_any (λ x. q x.path) rows ≡ false → list_any (λ x. q x.path) (tree_of f rows) ≡ false
none-tree_of q f [] none = refl
none-tree_of q f (row ∷ rows) none =
    none-set_cell q (tree_of f rows) row.path (f row.path) (or_parts (q row.path) (list_any (λ x. q x.path) rows) none).0
    (none-tree_of q f rows (or_parts (q row.path) (list_any (λ x. q x.path) rows) none).1)

-- ---- rows that are set, the last one first

abbrev pub with_rows : List Row → List Row → List Row
with_rows tree [] = tree
with_rows tree (row ∷ rows) = set_row (with_rows tree rows) row

pub cell-with_rows : (tree rows : List Row) (r : List Step) → cell (with_rows tree rows) r ≡ option_or (cell rows r) (cell tree r)
cell-with_rows tree [] r = refl
cell-with_rows tree (row ∷ rows) r =
    cell-set_row (with_rows tree rows) row r
    ∙ elim (path_eq r row.path) as (λ b. (if b then Some row.cell else cell (with_rows tree rows) r) ≡ option_or (if b then Some row.cell else cell rows r) (cell tree r)) [
      | true ↦ refl
      | false ↦ cell-with_rows tree rows r
    ]

pub IsAscending-with_rows : (tree rows : List Row) → IsAscending tree → IsAscending (with_rows tree rows)
IsAscending-with_rows tree [] h = h
IsAscending-with_rows tree (row ∷ rows) h = IsAscending-set_row (with_rows tree rows) row (IsAscending-with_rows tree rows h)

-- the paths of the rows differ, and the tree has no row at or below them
abbrev pub AreNew : List Row → List Row → Type 0
AreNew tree [] = Unit {0}
AreNew tree (row ∷ rows) = (option_or (cell rows row.path) (cell tree row.path) ≡ None) × AreNew tree rows

sum-set_row : (f : Row → ℕ) (tree : List Row) (row : Row) → cell tree row.path ≡ None → sum_by f (set_row tree row) ≡ f row + sum_by f tree
sum-set_row f [] row new = omega arith
sum-set_row f (x ∷ tree) row new =
    elim (path_cmp row.path x.path) as (λ o. (if is_eq o then Some x.cell else cell tree row.path) ≡ None → sum_by f (match_ordering o (row ∷ x ∷ tree) (row ∷ tree) (x ∷ set_row tree row)) ≡ f row + sum_by f (x ∷ tree)) [
      | Less ↦ λ h. sum_by-cons f row (x ∷ tree)
      | Equal ↦ λ h. cc
      | Greater ↦ λ h. let rest = sum-set_row f tree row h in omega (arith, sum_by-cons f x (set_row tree row), sum_by-cons f x tree)
    ] new

length-set_row : (tree : List Row) (row : Row) → cell tree row.path ≡ None → length (set_row tree row) ≡ 1 + length tree
length-set_row [] row new = refl
length-set_row (x ∷ tree) row new =
    elim (path_cmp row.path x.path) as (λ o. (if is_eq o then Some x.cell else cell tree row.path) ≡ None → length (match_ordering o (row ∷ x ∷ tree) (row ∷ tree) (x ∷ set_row tree row)) ≡ 1 + length (x ∷ tree)) [
      | Less ↦ λ h. omega arith
      | Equal ↦ λ h. cc
      | Greater ↦ λ h. let rest = length-set_row tree row h in omega arith
    ] new

pub sum-with_rows : (f : Row → ℕ) (tree rows : List Row) → AreNew tree rows → sum_by f (with_rows tree rows) ≡ sum_by f rows + sum_by f tree
sum-with_rows f tree [] new = omega arith
sum-with_rows f tree (row ∷ rows) new =
    let one = sum-set_row f (with_rows tree rows) row (cell-with_rows tree rows row.path ∙ new.0) in
    let rest = sum-with_rows f tree rows new.1 in
    let all = sum_by-cons f row rows in
    omega arith

pub length-with_rows : (tree rows : List Row) → AreNew tree rows → length (with_rows tree rows) ≡ length rows + length tree
length-with_rows tree [] new = omega arith
length-with_rows tree (row ∷ rows) new =
    let one = length-set_row (with_rows tree rows) row (cell-with_rows tree rows row.path ∙ new.0) in
    let rest = length-with_rows tree rows new.1 in
    omega arith
