-- Rows that were read, in the order of their paths.
use Rattle.std.proofs.Common.{◌≡◌, ◌⊎◌, inl, inr, true, false, List, [], ◌∷◌, Option, Some, None, if◌then◌else◌, refl, sym, ap, ◌∙◌}
use Rattle.std.specs.List.{fold}
use Rattle.sal_types.specs.declared.value.Cell.{Cell}
use Rattle.sal_types.specs.declared.value.Step.{Step}
use Rattle.sal_types.specs.declared.row.Row.{Row}
use Rattle.sal_types.specs.Order.{path_eq}
use Rattle.sal_types.specs.Tree.{cell, IsAscending}
use Rattle.sal_types.proofs.Trees.{same_tree}
use Rattle.sal_rows.specs.Edits.{set_row}
use Rattle.sal_rows.proofs.Cells.{same_path, path_eq-itself, cell-set_row, IsAscending-set_row}
use Rattle.sal_data.specs.Read.{in_order}
use Rattle.sal_data.proofs.Fronts.{rises, In-cell, cell-In}
use Rattle.sal_data.proofs.Listed.{In}

abbrev onto : List Row → List Row → List Row
onto tree read = fold set_row tree read

ascends-onto : (read tree : List Row) → IsAscending tree → IsAscending (onto tree read)
ascends-onto [] tree h = h
ascends-onto (row ∷ read) tree h = ascends-onto read (set_row tree row) (IsAscending-set_row tree row h)

pub IsAscending-in_order : (read : List Row) → IsAscending (in_order read)
IsAscending-in_order read = ascends-onto read [] refl

-- a cell is that of a row that was put in, or was there before
from_read : (read tree : List Row) (p : List Step) (c : Cell) → cell (onto tree read) p ≡ Some c → In (record { path = p; cell = c }) read ⊎ (cell tree p ≡ Some c)
from_read [] tree p c e = inr e
from_read (x ∷ read) tree p c e = elim (from_read read (set_row tree x) p c e) [
  | inl later ↦ inl (inr later)
  | inr set ↦ elim (path_eq p x.path) as (λ b. path_eq p x.path ≡ b → (if b then Some x.cell else cell tree p) ≡ Some c → In (record { path = p; cell = c }) (x ∷ read) ⊎ (cell tree p ≡ Some c)) [
    | true ↦ λ is e. let at : p ≡ x.path = same_path p x.path is in let same : c ≡ x.cell = cc in inl (inl (λ i. record { path = at i; cell = same i }))
    | false ↦ λ is e. inr e
  ] refl (sym (cell-set_row tree x p) ∙ set)
]

none_in : (p : List Step) (c : Cell) → cell [] p ≡ Some c → ⊥
none_in p c e = cc

pub in_order-from : (read : List Row) (p : List Step) (c : Cell) → cell (in_order read) p ≡ Some c → In (record { path = p; cell = c }) read
in_order-from read p c e = elim (from_read read [] p c e) [ inl there ↦ there | inr none ↦ absurd (none_in p c none) ]

module _ (rows : List Row) where
  -- each cell of the tree is one of the rows
  abbrev Agrees : List Row → Type 0
  Agrees tree = (p : List Step) (c : Cell) → cell tree p ≡ Some c → cell rows p ≡ Some c

  agrees-set : (tree : List Row) (row : Row) → Agrees tree → cell rows row.path ≡ Some row.cell → Agrees (set_row tree row)
  agrees-set tree row h known p c e =
      elim (path_eq p row.path) as (λ b. path_eq p row.path ≡ b → (if b then Some row.cell else cell tree p) ≡ Some c → cell rows p ≡ Some c) [
        | true ↦ λ is e. ap (cell rows) (same_path p row.path is) ∙ known ∙ e
        | false ↦ λ is e. h p c e
      ] refl (sym (cell-set_row tree row p) ∙ e)

  agrees-onto : (read tree : List Row) → Agrees tree → ((row : Row) → In row read → cell rows row.path ≡ Some row.cell) → Agrees (onto tree read)
  agrees-onto [] tree h known = h
  agrees-onto (row ∷ read) tree h known = agrees-onto read (set_row tree row) (agrees-set tree row h (known row (inl refl))) (λ r there. known r (inr there))

  -- the path has a cell
  abbrev Stands : List Row → List Step → Type 0
  Stands tree p = (c : Cell) × (cell tree p ≡ Some c)

  stands-set : (tree : List Row) (row : Row) (p : List Step) → Stands tree p → Stands (set_row tree row) p
  stands-set tree row p (c, e) =
      elim (path_eq p row.path) as (λ b. path_eq p row.path ≡ b → (d : Cell) × (cell (set_row tree row) p ≡ Some d)) [
        | true ↦ λ is. (row.cell, cell-set_row tree row p ∙ ap (λ b. if b then Some row.cell else cell tree p) is)
        | false ↦ λ is. (c, cell-set_row tree row p ∙ ap (λ b. if b then Some row.cell else cell tree p) is ∙ e)
      ] refl

  stands-kept : (read tree : List Row) (p : List Step) → Stands tree p → Stands (onto tree read) p
  stands-kept [] tree p h = h
  stands-kept (row ∷ read) tree p h = stands-kept read (set_row tree row) p (stands-set tree row p h)

  pub stands-read : (read tree : List Row) (row : Row) → In row read → Stands (onto tree read) row.path
  stands-read [] tree row there = absurd there
  stands-read (x ∷ read) tree row (inl e) =
      stands-kept read (set_row tree x) row.path
      (x.cell, cell-set_row tree x row.path ∙ ap (λ b. if b then Some x.cell else cell tree row.path) (ap (λ (r : Row). path_eq r.path x.path) e ∙ path_eq-itself x.path))
  stands-read (x ∷ read) tree row (inr there) = stands-read read (set_row tree x) row there

  -- rows of a tree, all of them, in any order, are put into the tree
  pub in_order-is : (read : List Row) → IsAscending rows → ((row : Row) → In row read → cell rows row.path ≡ Some row.cell) → ((p : List Step) (c : Cell) → cell rows p ≡ Some c → In (record { path = p; cell = c }) read)
      → in_order read ≡ rows
  in_order-is read ascending known all = same_tree (in_order read) rows (IsAscending-in_order read) ascending (λ p. by p (cell rows p) refl (cell (in_order read) p) refl)
    where
      agrees : Agrees (in_order read)
      agrees = agrees-onto read [] (λ p c e. cc) known

      by : (p : List Step) (o : Option Cell) → cell rows p ≡ o → (r : Option Cell) → cell (in_order read) p ≡ r → cell (in_order read) p ≡ cell rows p
      by p None at None is = is ∙ sym at
      by p None at (Some d) is = is ∙ sym (agrees p d is)
      by p (Some c) at (Some d) is = is ∙ sym (agrees p d is)
      by p (Some c) at None is =
          let (d, there) = stands-read read [] (record { path = p; cell = c }) (all p c at) in
          let never : ◌≡◌ {A = Option Cell} None (Some d) = sym is ∙ there in
          cc

-- if rows of one path are alike, each is in the tree
pub in_order-at : (read : List Row) (row : Row) → ((a b : Row) → In a read → In b read → a.path ≡ b.path → a.cell ≡ b.cell) → In row read → cell (in_order read) row.path ≡ Some row.cell
in_order-at read row alike there =
    let (d, at) = stands-read [] read [] row there in
    at ∙ ap Some (alike (record { path = row.path; cell = d }) row (in_order-from read row.path d at) there refl)

-- rows that rise are in order as they are
pub in_order-rising : (rows : List Row) → IsAscending rows → in_order rows ≡ rows
in_order-rising rows h = in_order-is rows rows h (λ row there. cell-In rows row (rises rows h) there) (In-cell rows)
