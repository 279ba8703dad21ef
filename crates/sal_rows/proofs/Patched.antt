-- The rows after changes.
use Rattle.std.proofs.Common.{◌≡◌, ℕ, zero, suc, ◌+◌, ◌-◌, Bool, true, false, List, [], ◌∷◌, ◌++◌, Option, Some, None, refl, ap, sym, ◌∙◌, if◌then◌else◌, arith}
use Rattle.std.specs.Prelude.{T, not}
use Rattle.std.specs.List.{fold}
use Rattle.std.specs.Ordering.{is_eq, is_lt}
use Rattle.std.specs.declared.cmp.Ordering.TheVariants.{Equal}
use Rattle.std.specs.Cmp.{Equal-is}
use Rattle.std.specs.FinMap.{is_sorted}
use Rattle.std.specs.FinMap.Entries.{below_all}
use Rattle.sal_types.specs.declared.value.Step.{Step}
use Rattle.sal_types.specs.declared.value.Cell.{Cell}
use Rattle.sal_types.specs.declared.row.Row.{Row}
use Rattle.sal_types.specs.Order.{path_cmp, path_eq, cell_cmp-IsAntisymmetric}
use Rattle.sal_types.specs.Prefix.{is_prefix}
use Rattle.sal_types.specs.Tree.{cell, under, IsAscending}
use Rattle.sal_types.proofs.Trees.{same_tree}
use Rattle.sal_rows.specs.declared.change.Change.{Change}
use Rattle.sal_rows.specs.declared.batch.Part.{Part}
use Rattle.sal_rows.specs.declared.batch.Batch.{Batch}
use Rattle.sal_rows.specs.Changes.{same_cell, changes, changes_under, change_at, differing}
use Rattle.sal_rows.specs.Batches.{part_with, part, parts_after, lists_of, HasChangesOf}
use Rattle.sal_rows.specs.Patch.{with_cell, with_changes, with_parts}
use Rattle.sal_rows.proofs.Cells.{same_path, path_eq-itself, cell-set_row, IsAscending-set_row, cell-filter, IsAscending-filter}
use Rattle.sal_rows.proofs.Differing.{first, second, marks, Rises, at-changes, rises-changes}
pub use Rattle.sal_types.proofs.Handy.{less}

pub ascending-with_cell : (rows : List Row) (p : List Step) (o : Option Cell) → IsAscending rows → IsAscending (with_cell rows p o)
ascending-with_cell rows p None h = IsAscending-filter (λ q. not (path_eq p q)) rows h
ascending-with_cell rows p (Some c) h = IsAscending-set_row rows (record { path = p; cell = c }) h

swap_eq : (p q : List Step) → path_eq p q ≡ path_eq q p
swap_eq p q = elim (path_eq p q) as (λ b. path_eq p q ≡ b → b ≡ path_eq q p) [
  | true ↦ λ e. sym (ap (λ z. path_eq q z) (same_path p q e) ∙ path_eq-itself q)
  | false ↦ λ e. elim (path_eq q p) as (λ b. path_eq q p ≡ b → false ≡ b) [
    | true ↦ λ f. let one : path_eq p q ≡ true = ap (λ z. path_eq z q) (sym (same_path q p f)) ∙ path_eq-itself q in cc
    | false ↦ λ f. refl
  ] refl
] refl

pub cell-with_cell : (rows : List Row) (p : List Step) (o : Option Cell) (r : List Step) → cell (with_cell rows p o) r ≡ (if path_eq r p then o else cell rows r)
cell-with_cell rows p None r =
    cell-filter (λ q. not (path_eq p q)) rows r
    ∙ ap (λ b. if not b then cell rows r else None) (swap_eq p r)
    ∙ elim (path_eq r p) as (λ b. (if not b then cell rows r else None) ≡ (if b then None else cell rows r)) [ true ↦ refl | false ↦ refl ]
cell-with_cell rows p (Some c) r = cell-set_row rows (record { path = p; cell = c }) r

pub ascending-with_changes : (rows : List Row) (cs : List Change) → IsAscending rows → IsAscending (with_changes rows cs)
ascending-with_changes rows [] h = h
ascending-with_changes rows (c ∷ cs) h = ascending-with_changes (with_cell rows c.path c.after) cs (ascending-with_cell rows c.path c.after h)

abbrev after_by : Option (Option Cell × Option Cell) → Option Cell → Option Cell
after_by None was = was
after_by (Some m) was = m.1

none-above : (p : List Step) (cs : List Change) → T (below_all path_cmp p (marks cs)) → change_at cs p ≡ None
none-above p [] h = refl
none-above p (c ∷ cs) h = ap (λ o. if is_eq o then Some (c.before, c.after) else change_at cs p) (less _ (first (is_lt (path_cmp p c.path)) (below_all path_cmp p (marks cs)) h)) ∙ none-above p cs (second (is_lt (path_cmp p c.path)) _ h)

cell-with_changes : (rows : List Row) (cs : List Change) (r : List Step) → Rises cs → cell (with_changes rows cs) r ≡ after_by (change_at cs r) (cell rows r)
cell-with_changes rows [] r h = refl
cell-with_changes rows (c ∷ cs) r h =
    let ih : cell (with_changes (with_cell rows c.path c.after) cs) r ≡ after_by (change_at cs r) (cell (with_cell rows c.path c.after) r) = cell-with_changes (with_cell rows c.path c.after) cs r (second (below_all path_cmp c.path (marks cs)) _ h) in
    ih ∙ ap (after_by (change_at cs r)) (cell-with_cell rows c.path c.after r)
    ∙ elim (path_eq r c.path) as (λ b. path_eq r c.path ≡ b → after_by (change_at cs r) (if b then c.after else cell rows r) ≡ after_by (if b then Some (c.before, c.after) else change_at cs r) (cell rows r)) [
      | true ↦ λ b. ap (λ o. after_by o c.after) (ap (change_at cs) (same_path r c.path b) ∙ none-above c.path cs (first _ (is_sorted path_cmp (marks cs)) h))
      | false ↦ λ b. refl
    ] refl

-- the test of two cells decides whether they are the same
pub one_cell : (c d : Option Cell) → same_cell c d ≡ true → c ≡ d
one_cell None None e = refl
one_cell None (Some d) e = cc
one_cell (Some c) None e = cc
one_cell (Some c) (Some d) e = ap (λ z. Some z) (cell_cmp-IsAntisymmetric c d ((Equal-is _).0 e))

after-differing : (c d : Option Cell) → after_by (differing c d) c ≡ d
after-differing c d = elim (same_cell c d) as (λ b. same_cell c d ≡ b → after_by (if b then None else Some (c, d)) c ≡ d) [
  | true ↦ λ b. one_cell c d b
  | false ↦ λ b. refl
] refl

-- the changes, done to the rows before, give the rows after
pub with-changes : (xs ys : List Row) → IsAscending xs → IsAscending ys → with_changes xs (changes xs ys) ≡ ys
with-changes xs ys g h = same_tree _ _ (ascending-with_changes xs (changes xs ys) g) h (λ r.
    cell-with_changes xs (changes xs ys) r (rises-changes xs ys g) ∙ ap (λ o. after_by o (cell xs r)) (at-changes xs ys r h) ∙ after-differing (cell xs r) (cell ys r))

pub with-changes_under : (b a : List Row) (p : List Step) → IsAscending b → IsAscending a → with_changes (under b p) (changes_under b a p) ≡ under a p
with-changes_under b a p g h = with-changes (under b p) (under a p) (IsAscending-filter (is_prefix p) b g) (IsAscending-filter (is_prefix p) a h)

-- the same for several commits
abbrev with_lists : List Row → List (ℕ × List Change) → List Row
with_lists rows ls = fold (λ rows l. with_changes rows l.1) rows ls

parts-lists : (rows : List Row) (ps : List Part) → with_parts rows ps ≡ with_lists rows (lists_of ps)
parts-lists rows [] = refl
parts-lists rows (p ∷ ps) = parts-lists (with_changes rows p.list) ps

with-part : (own : Bool) (b a : List Row) (p : List Step) (k : ℕ) (cs : List Change) (rows : List Row) (rest : List Part) → with_parts rows (part_with own b a p k cs ++ rest) ≡ with_parts (with_changes rows cs) rest
with-part own b a p k [] rows rest = refl
with-part own b a p k (c ∷ cs) rows rest = refl

pub with-after : (own : Bool) (trees : ℕ → List Row) (p : List Step) → ((k : ℕ) → IsAscending (trees k)) → (n k : ℕ) → with_parts (under (trees k) p) (parts_after own trees p k n) ≡ under (trees (k + n)) p
with-after own trees p h zero k = ap (λ m. under (trees m) p) (let e : k ≡ k + zero = omega arith in e)
with-after own trees p h (suc n) k =
    with-part own (trees k) (trees (k + 1)) p (k + 1) (changes_under (trees k) (trees (k + 1)) p) (under (trees k) p) (parts_after own trees p (k + 1) n)
    ∙ ap (λ rows. with_parts rows (parts_after own trees p (k + 1) n)) (with-changes_under (trees k) (trees (k + 1)) p (h k) (h (k + 1)))
    ∙ with-after own trees p h n (k + 1)
    ∙ ap (λ m. under (trees m) p) (let e : (k + 1) + n ≡ k + suc n = omega arith in e)

-- a batch carries the rows under the path on
pub with-batch : (trees : ℕ → List Row) (p : List Step) (b : Batch) → ((k : ℕ) → IsAscending (trees k)) → HasChangesOf trees p b → with_parts (under (trees b.from) p) b.lists ≡ under (trees b.to) p
with-batch trees p b h is =
    parts-lists (under (trees b.from) p) b.lists
    ∙ ap (with_lists (under (trees b.from) p)) is.lists
    ∙ sym (parts-lists (under (trees b.from) p) (parts_after is.own trees p b.from (b.to - b.from)))
    ∙ with-after is.own trees p h (b.to - b.from) b.from
    ∙ ap (λ m. under (trees m) p) (let e : b.from + (b.to - b.from) ≡ b.to = omega (arith, is.forward) in e)

-- the parts of two batches, one after the other
append_assoc : (xs ys zs : List Part) → (xs ++ ys) ++ zs ≡ xs ++ (ys ++ zs)
append_assoc [] ys zs = refl
append_assoc (x ∷ xs) ys zs = ap (λ (l : List Part). x ∷ l) (append_assoc xs ys zs)

pub parts-append : (own : Bool) (trees : ℕ → List Row) (p : List Step) (m n k : ℕ) → parts_after own trees p k m ++ parts_after own trees p (k + m) n ≡ parts_after own trees p k (m + n)
parts-append own trees p zero n k = λ i. parts_after own trees p ((let e : k + zero ≡ k = omega arith in e) i) ((let e : n ≡ zero + n = omega arith in e) i)
parts-append own trees p (suc m) n k =
    append_assoc (part own (trees k) (trees (k + 1)) p (k + 1)) (parts_after own trees p (k + 1) m) (parts_after own trees p (k + suc m) n)
    ∙ ap (λ (l : List Part). part own (trees k) (trees (k + 1)) p (k + 1) ++ l) (
    ap (λ j. parts_after own trees p (k + 1) m ++ parts_after own trees p j n) (let e : k + suc m ≡ (k + 1) + m = omega arith in e)
    ∙ parts-append own trees p m n (k + 1))
    ∙ ap (parts_after own trees p k) (let e : suc (m + n) ≡ suc m + n = omega arith in e)
