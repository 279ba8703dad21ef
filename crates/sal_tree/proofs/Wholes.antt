-- The rows below a path are those of the node there.
use Rattle.std.proofs.Common.{◌≡◌, true, false, List, [], ◌∷◌, ◌++◌, ◌&&◌, Option, Some, None, refl, ap, sym, ◌∙◌, subst, if◌then◌else◌}
use Rattle.std.specs.Prelude.{T}
use Rattle.std.proofs.Common.{cond}
use Rattle.std.specs.FinMap.{is_sorted}
use Rattle.std.specs.List.{fold}
use Rattle.sal_types.specs.declared.value.Step.{Step}
use Rattle.sal_types.specs.declared.row.Row.{Row}
use Rattle.sal_types.specs.Order.{path_cmp}
use Rattle.sal_types.specs.Prefix.{is_prefix}
use Rattle.sal_types.specs.Tree.{cell, under, entries, IsAscending}
use Rattle.sal_types.proofs.Trees.{same_tree, IsTrue-from_T, T-from_IsTrue}
use Rattle.sal_rows.specs.Edits.{set_row}
use Rattle.sal_rows.proofs.Cells.{cell-set_rows, IsAscending-set_row, cell-filter, IsAscending-filter}
use Rattle.sal_node.specs.Tree.{Tree, IsGrove}
use Rattle.sal_tree.specs.Grow.{at, cell_in, kid, IsSound, present}
use Rattle.sal_tree.specs.Rows.{rows_of, from_path, below}
use Rattle.sal_tree.proofs.Laws.{eq, same, sound-at, sound-kid}
use Rattle.sal_tree.proofs.Cells.{cell-rows_of, ascending-rows_of, has-rows_of, cell-below, cell-below_root, sorted-below, or_none}
use Rattle.sal_tree.proofs.Touches.{eq_back}
use Rattle.sal_tree.proofs.Chains.{absent-cell}

ascending-fold : (rows tree : List Row) → IsAscending tree → IsAscending (fold set_row tree rows)
ascending-fold [] tree h = h
ascending-fold (row ∷ rows) tree h = ascending-fold rows (set_row tree row) (IsAscending-set_row tree row h)

all_set : (rows : List Row) → IsAscending rows → fold set_row [] rows ≡ rows
all_set rows h = same_tree (fold set_row [] rows) rows (ascending-fold rows [] refl) h (λ r. cell-set_rows rows [] r h ∙ or_none (cell rows r))

-- the rows below a path
pub from_path-root : (rows : List Row) → from_path [] rows ≡ rows
from_path-root [] = refl
from_path-root (r ∷ rows) = ap (λ (l : List Row). r ∷ l) (from_path-root rows)

pub from_path-below : (x : Step) (p : List Step) (rows : List Row) → from_path (x ∷ p) rows ≡ below x (from_path p rows)
from_path-below x p [] = refl
from_path-below x p (r ∷ rows) = ap (λ (l : List Row). record { path = x ∷ (p ++ r.path); cell = r.cell } ∷ l) (from_path-below x p rows)

sorted-from_path : (p : List Step) (rows : List Row) → T (is_sorted path_cmp (entries rows)) → T (is_sorted path_cmp (entries (from_path p rows)))
sorted-from_path [] rows h = subst (λ l. T (is_sorted path_cmp (entries l))) (sym (from_path-root rows)) h
sorted-from_path (x ∷ p) rows h = subst (λ l. T (is_sorted path_cmp (entries l))) (sym (from_path-below x p rows)) (sorted-below x (from_path p rows) (sorted-from_path p rows h))

eq_swap : (x y : Step) → eq y x ≡ eq x y
eq_swap x y = elim (eq x y) as (λ b. eq x y ≡ b → eq y x ≡ b) [
  | true ↦ λ b. eq_back x y b
  | false ↦ λ b. elim (eq y x) as (λ c. eq y x ≡ c → c ≡ false) [ true ↦ λ c. let t = eq_back y x c in cc | false ↦ λ c. refl ] refl
] refl

cell-from_path : (p : List Step) (t k : Tree) (r : List Step) → IsGrove t.kids → at (Some t) p ≡ Some k → cell (from_path p (rows_of k)) r ≡ (if is_prefix p r then cell (rows_of t) r else None)
cell-from_path [] t k r h e = ap (λ l. cell l r) (from_path-root (rows_of k)) ∙ ap (λ (j : Tree). cell (rows_of j) r) (some_same k t (sym e))
  where
    some_same : (a b : Tree) → Some a ≡ Some b → a ≡ b
    some_same a b e = cc
cell-from_path (x ∷ p) t k [] h e = ap (λ l. cell l []) (from_path-below x p (rows_of k)) ∙ cell-below_root x (from_path p (rows_of k))
cell-from_path (x ∷ p) t k (y ∷ r) h e =
    ap (λ l. cell l (y ∷ r)) (from_path-below x p (rows_of k)) ∙ cell-below x (from_path p (rows_of k)) y r
    ∙ ap (λ o. cond (eq y x) o None) (by_kid (λ j. cell-from_path p j k r) (kid (Some t) x) refl e)
    ∙ ap (λ b. cond b (if is_prefix p r then cell_in (at (kid (Some t) x) r) else None) None) (eq_swap x y)
    ∙ elim (eq x y) as (λ b. eq x y ≡ b → cond b (if is_prefix p r then cell_in (at (kid (Some t) x) r) else None) None ≡ (if (b && is_prefix p r) then cell (rows_of t) (y ∷ r) else None)) [
      | true ↦ λ b. ap (λ o. if is_prefix p r then o else None) (ap (λ (z : Step). cell_in (at (kid (Some t) z) r)) (same x y b) ∙ sym (cell-rows_of t h (y ∷ r)))
      | false ↦ λ b. refl
    ] refl
  where
    none_at : (p : List Step) → at None p ≡ None
    none_at [] = refl
    none_at (z ∷ p) = none_at p

    by_kid : ((j : Tree) → IsGrove j.kids → at (Some j) p ≡ Some k → cell (from_path p (rows_of k)) r ≡ (if is_prefix p r then cell (rows_of j) r else None)) → (o : Option Tree) → kid (Some t) x ≡ o → at (kid (Some t) x) p ≡ Some k → cell (from_path p (rows_of k)) r ≡ (if is_prefix p r then cell_in (at (kid (Some t) x) r) else None)
    by_kid hyp None a f = let none = none_at p in let g : at None p ≡ Some k = sym (ap (λ o. at o p) a) ∙ f in cc
    by_kid hyp (Some j) a f =
        let sound = subst IsSound a (sound-kid (Some t) x h) in
        hyp j sound (sym (ap (λ o. at o p) a) ∙ f)
        ∙ ap (λ o. if is_prefix p r then o else None) (cell-rows_of j sound r ∙ ap (λ o. cell_in (at o r)) (sym a))

pub under-node : (p : List Step) (t k : Tree) → IsGrove t.kids → at (Some t) p ≡ Some k → from_path p (rows_of k) ≡ under (rows_of t) p
under-node p t k h e = same_tree _ _ (IsTrue-from_T _ (sorted-from_path p (rows_of k) (T-from_IsTrue _ (ascending-rows_of k (subst IsSound e (sound-at (Some t) p h)))))) (IsAscending-filter (is_prefix p) (rows_of t) (ascending-rows_of t h)) (λ r.
    cell-from_path p t k r h e ∙ sym (cell-filter (is_prefix p) (rows_of t) r))

pub under-none : (p : List Step) (t : Tree) → IsGrove t.kids → at (Some t) p ≡ None → under (rows_of t) p ≡ []
under-none p t h e = same_tree _ _ (IsAscending-filter (is_prefix p) (rows_of t) (ascending-rows_of t h)) refl (λ r.
    cell-filter (is_prefix p) (rows_of t) r ∙ elim (is_prefix p r) as (λ b. is_prefix p r ≡ b → (if b then cell (rows_of t) r else None) ≡ None) [
      | true ↦ λ b. absent-cell (rows_of t) p r (has-rows_of t h p ∙ ap present e) b
      | false ↦ λ b. refl
    ] refl)
