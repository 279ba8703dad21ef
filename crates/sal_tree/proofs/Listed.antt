-- The rows after each edit.
use Rattle.std.proofs.Common.{◌≡◌, ℕ, true, false, List, [], ◌∷◌, ◌++◌, length, Option, Some, None, refl, ap, sym, ◌∙◌, if◌then◌else◌, arith, length-append}
use Rattle.std.specs.Prelude.{not}
use Rattle.std.specs.List.{fold}
use Rattle.sal_types.specs.declared.value.Step.{Step}
use Rattle.sal_types.specs.declared.value.Cell.{Cell}
use Rattle.sal_types.specs.declared.row.Row.{Row}
use Rattle.sal_types.specs.Order.{path_eq}
use Rattle.sal_types.specs.Prefix.{is_prefix, IsPrefix}
use Rattle.sal_types.proofs.Prefixes.{IsPrefix-from_test}
use Rattle.sal_types.specs.Tree.{under}
use Rattle.sal_types.proofs.Trees.{same_tree}
use Rattle.sal_rows.specs.Edits.{set_row}
use Rattle.sal_rows.proofs.Cells.{same_path, path_eq-itself, cell-set_row, IsAscending-set_row, cell-filter, IsAscending-filter}
use Rattle.sal_rows.proofs.Changes.{outside}
use Rattle.sal_node.specs.Tree.{Tree, Forest, IsGrove, is_filled}
use Rattle.sal_tree.specs.Grow.{cell_in, at, standing, grow, IsSound, present}
use Rattle.sal_tree.specs.Edit.{root_of, celled, with_row, without, with_rows, put_rows}
use Rattle.sal_tree.specs.Rows.{rows_of}
use Rattle.sal_tree.proofs.Laws.{at-through, at-beside, at-append, at-end, is_prefix-self, append_nil}
use Rattle.sal_tree.proofs.Cells.{cell-rows_of, ascending-rows_of}
use Rattle.sal_tree.proofs.Edited.{kept-row, cleared_below, none-below, sound-with_row, sound-without}

pub cell-root_of : (s : ℕ) (o : Option Tree) (q : List Step) → cell_in (at (Some (root_of s o)) q) ≡ cell_in (at o q)
cell-root_of s None [] = refl
cell-root_of s (Some t) [] = refl
cell-root_of s None (x ∷ q) = refl
cell-root_of s (Some t) (x ∷ q) = refl

cell-standing : (s : ℕ) (c : Option Cell) (es : List (Step × Tree)) → cell_in (standing s c es) ≡ c
cell-standing s None [] = refl
cell-standing s None (e ∷ es) = refl
cell-standing s (Some c) es = refl

-- above the end of the path
pub cell-above : (s : ℕ) (o : Option Tree) (q : List Step) (x : Step) (r : List Step) (new : Option Tree) → IsSound o → cell_in (at (grow s o (q ++ x ∷ r) new) q) ≡ cell_in (at o q)
cell-above s o q x r new h = ap cell_in (at-through s o q (x ∷ r) new h) ∙ cell-standing s (cell_in (at o q)) _

longer : (q : List Step) (x : Step) (r : List Step) → path_eq q (q ++ x ∷ r) ≡ false
longer q x r = elim (path_eq q (q ++ x ∷ r)) as (λ b. path_eq q (q ++ x ∷ r) ≡ b → b ≡ false) [
  | true ↦ λ e. let l : length q ≡ length (q ++ x ∷ r) = ap length (same_path q (q ++ x ∷ r) e) in absurd (omega (arith, length-append q (x ∷ r)))
  | false ↦ λ e. refl
] refl

other : (q p : List Step) → is_prefix q p ≡ false → path_eq q p ≡ false
other q p e = elim (path_eq q p) as (λ b. path_eq q p ≡ b → b ≡ false) [
  | true ↦ λ b. let same = is_prefix-self p q (same_path q p b ∙ sym (append_nil p)) in cc
  | false ↦ λ b. refl
] refl

path_itself : (q : List Step) → path_eq q q ≡ true
path_itself q = path_eq-itself q

cell-with_row : (s : ℕ) (t : Tree) (row : Row) (q : List Step) → IsGrove t.kids → cell_in (at (Some (with_row s t row)) q) ≡ (if path_eq q row.path then Some row.cell else cell_in (at (Some t) q))
cell-with_row s t row q h = elim (is_prefix q row.path) as (λ b. is_prefix q row.path ≡ b → cell_in (at (Some (with_row s t row)) q) ≡ (if path_eq q row.path then Some row.cell else cell_in (at (Some t) q))) [
  | true ↦ λ b. on_way (IsPrefix-from_test q row.path b)
  | false ↦ λ b. ap cell_in (kept-row s t row q h b) ∙ sym (ap (λ c. if c then Some row.cell else cell_in (at (Some t) q)) (other q row.path b))
] refl
  where
    by_rest : (w : List Step) → row.path ≡ q ++ w → cell_in (at (grow s (Some t) row.path (celled s (at (Some t) row.path) row.cell)) q) ≡ (if path_eq q row.path then Some row.cell else cell_in (at (Some t) q))
    by_rest [] e =
        let here : row.path ≡ q = e ∙ append_nil q in
        ap (λ r. cell_in (at (grow s (Some t) row.path (celled s (at (Some t) row.path) row.cell)) r)) (sym here)
        ∙ ap cell_in (at-end s (Some t) row.path (celled s (at (Some t) row.path) row.cell) h)
        ∙ sym (ap (λ c. if c then Some row.cell else cell_in (at (Some t) q)) (ap (λ r. path_eq r row.path) (sym here) ∙ path_itself row.path))
    by_rest (x ∷ w) e =
        ap (λ p. cell_in (at (grow s (Some t) p (celled s (at (Some t) row.path) row.cell)) q)) e
        ∙ cell-above s (Some t) q x w (celled s (at (Some t) row.path) row.cell) h
        ∙ sym (ap (λ p. if path_eq q p then Some row.cell else cell_in (at (Some t) q)) e ∙ ap (λ c. if c then Some row.cell else cell_in (at (Some t) q)) (longer q x w))

    on_way : IsPrefix q row.path → cell_in (at (Some (with_row s t row)) q) ≡ (if path_eq q row.path then Some row.cell else cell_in (at (Some t) q))
    on_way w = cell-root_of s (grow s (Some t) row.path (celled s (at (Some t) row.path) row.cell)) q ∙ by_rest w.0 w.1

-- the rows with one row set
pub rows-with_row : (s : ℕ) (t : Tree) (row : Row) → IsGrove t.kids → rows_of (with_row s t row) ≡ set_row (rows_of t) row
rows-with_row s t row h = same_tree _ _ (ascending-rows_of (with_row s t row) (sound-with_row s t row h)) (IsAscending-set_row (rows_of t) row (ascending-rows_of t h)) (λ q.
    cell-rows_of (with_row s t row) (sound-with_row s t row h) q ∙ cell-with_row s t row q h ∙ ap (λ o. if path_eq q row.path then Some row.cell else o) (sym (cell-rows_of t h q)) ∙ sym (cell-set_row (rows_of t) row q))

pub rows-with_rows : (s : ℕ) (rows : List Row) (t : Tree) → IsGrove t.kids → rows_of (with_rows s t rows) ≡ fold set_row (rows_of t) rows
rows-with_rows s [] t h = refl
rows-with_rows s (row ∷ rows) t h = rows-with_rows s rows (with_row s t row) (sound-with_row s t row h) ∙ ap (λ l. fold set_row l rows) (rows-with_row s t row h)

-- the rows without those of a path
no_cell : (o : Option Tree) → present o ≡ false → cell_in o ≡ None
no_cell None e = refl
no_cell (Some t) e = by_cell t.cell t.kids e
  where
    by_cell : (c : Option Cell) (f : Forest) → is_filled c f ≡ false → c ≡ None
    by_cell None f e = refl
    by_cell (Some c) f e = cc

cell-cleared : (s : ℕ) (t : Tree) (p q : List Step) → IsGrove t.kids → cell_in (at (Some (root_of s (grow s (Some t) p None))) q) ≡ (if is_prefix p q then None else cell_in (at (Some t) q))
cell-cleared s t p [] h = elim p as (λ p. cell_in (at (Some (root_of s (grow s (Some t) p None))) []) ≡ (if is_prefix p [] then None else cell_in (Some t))) [
  | [] ↦ refl
  | x ∷ p ↦ cell-root_of s (grow s (Some t) (x ∷ p) None) [] ∙ cell-standing s t.cell _
]
cell-cleared s t p (x ∷ q) h = elim (is_prefix p (x ∷ q)) as (λ b. is_prefix p (x ∷ q) ≡ b → cell_in (at (Some (root_of s (grow s (Some t) p None))) (x ∷ q)) ≡ (if b then None else cell_in (at (Some t) (x ∷ q)))) [
  | true ↦ λ b. ap cell_in (cleared_below s t p x q h b)
  | false ↦ λ b. cell-root_of s (grow s (Some t) p None) (x ∷ q) ∙ elim (is_prefix (x ∷ q) p) as (λ c. is_prefix (x ∷ q) p ≡ c → cell_in (at (grow s (Some t) p None) (x ∷ q)) ≡ cell_in (at (Some t) (x ∷ q))) [
    | true ↦ λ c. on_way (IsPrefix-from_test (x ∷ q) p c) b
    | false ↦ λ c. ap cell_in (at-beside s (Some t) p (x ∷ q) None h b c)
  ] refl
] refl
  where
    on_way : IsPrefix (x ∷ q) p → is_prefix p (x ∷ q) ≡ false → cell_in (at (grow s (Some t) p None) (x ∷ q)) ≡ cell_in (at (Some t) (x ∷ q))
    on_way w b = by_rest w.0 w.1
      where
        by_rest : (r : List Step) → p ≡ (x ∷ q) ++ r → cell_in (at (grow s (Some t) p None) (x ∷ q)) ≡ cell_in (at (Some t) (x ∷ q))
        by_rest [] e = let yes = is_prefix-self (x ∷ q) p e in cc
        by_rest (y ∷ r) e = ap (λ v. cell_in (at (grow s (Some t) v None) (x ∷ q))) e ∙ cell-above s (Some t) (x ∷ q) y r None h

cell-without : (s : ℕ) (t : Tree) (p q : List Step) → IsGrove t.kids → cell_in (at (Some (without s t p)) q) ≡ (if is_prefix p q then None else cell_in (at (Some t) q))
cell-without s t p q h = elim (present (at (Some t) p)) as (λ b. present (at (Some t) p) ≡ b → cell_in (at (Some (if b then root_of s (grow s (Some t) p None) else t)) q) ≡ (if is_prefix p q then None else cell_in (at (Some t) q))) [
  | true ↦ λ b. cell-cleared s t p q h
  | false ↦ λ b. elim (is_prefix p q) as (λ c. is_prefix p q ≡ c → cell_in (at (Some t) q) ≡ (if c then None else cell_in (at (Some t) q))) [
    | true ↦ λ c. let w = IsPrefix-from_test p q c in ap (λ r. cell_in (at (Some t) r)) w.1 ∙ ap cell_in (at-append (Some t) p w.0) ∙ no_cell _ (none-below (at (Some t) p) w.0 b)
    | false ↦ λ c. refl
  ] refl
] refl

pub rows-without : (s : ℕ) (t : Tree) (p : List Step) → IsGrove t.kids → rows_of (without s t p) ≡ outside (rows_of t) p
rows-without s t p h = same_tree _ _ (ascending-rows_of (without s t p) (sound-without s t p h)) (IsAscending-filter (λ q. not (is_prefix p q)) (rows_of t) (ascending-rows_of t h)) (λ q.
    cell-rows_of (without s t p) (sound-without s t p h) q ∙ cell-without s t p q h
    ∙ elim (is_prefix p q) as (λ b. (if b then None else cell_in (at (Some t) q)) ≡ (if not b then cell_in (at (Some t) q) else None)) [ true ↦ refl | false ↦ refl ]
    ∙ ap (λ o. if not (is_prefix p q) then o else None) (sym (cell-rows_of t h q))
    ∙ sym (cell-filter (λ r. not (is_prefix p r)) (rows_of t) q))

-- the rows put in place of a path
pub rows-put_rows : (s : ℕ) (t : Tree) (p : List Step) (rows : List Row) → IsGrove t.kids → rows_of (put_rows s t p rows) ≡ fold set_row (outside (rows_of t) p) (under rows p)
rows-put_rows s t p rows h = rows-with_rows s (under rows p) (without s t p) (sound-without s t p h) ∙ ap (λ l. fold set_row l (under rows p)) (rows-without s t p h)
