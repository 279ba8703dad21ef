-- The changes at a path of two trees.
use Rattle.std.proofs.Common.{◌≡◌, ◌+◌, ◌≤◌, true, false, List, [], ◌∷◌, ◌++◌, length, Option, Some, None, refl, ap, sym, ◌∙◌, subst, arith, if◌then◌else◌}
use Rattle.std.proofs.Math.Dec.{eqb→eq}
use Rattle.std.specs.Prelude.{T}
use Rattle.std.specs.Ordering.{match_ordering, ordering_then}
use Rattle.std.specs.declared.cmp.Ordering.TheVariants.{Less, Equal, Greater}
use Rattle.std.specs.Cmp.{tied_itself}
use Rattle.sal_types.specs.declared.value.Step.{Step}
use Rattle.sal_types.specs.declared.row.Row.{Row}
use Rattle.sal_types.specs.Order.{path_cmp, step_cmp-IsTotalOrder}
use Rattle.sal_types.specs.Tree.{under}
use Rattle.sal_node.specs.Tree.{Tree, IsGrove}
use Rattle.sal_tree.specs.Grow.{at}
use Rattle.sal_tree.specs.Alike.{alike}
use Rattle.sal_tree.specs.Follows.{Agree}
use Rattle.sal_tree.specs.Rows.{rows_of, from_path}
use Rattle.sal_tree.specs.Whole.{IsWhole}
use Rattle.sal_tree.proofs.Laws.{at-append, sound-at}
use Rattle.sal_tree.proofs.Heights.{low-node}
use Rattle.sal_tree.proofs.Wholes.{under-node, under-none}
use Rattle.sal_rows.specs.declared.change.Change.{Change}
use Rattle.sal_rows.specs.Changes.{same_cell}
use Rattle.sal_delta.specs.Merge.{gone, come, met, merge_row, merge, rows_at, moved}
use Rattle.sal_delta.specs.Spots.{AgreeFrom, Stands, depth_of}
use Rattle.sal_delta.proofs.Merges.{merge-itself}

under-at : (t : Tree) (p : List Step) → IsGrove t.kids → under (rows_of t) p ≡ from_path p (rows_at (at (Some t) p))
under-at t p h = elim (at (Some t) p) as (λ o. at (Some t) p ≡ o → under (rows_of t) p ≡ from_path p (rows_at o)) [
  | None ↦ λ e. under-none p t h e
  | Some k ↦ λ e. sym (under-node p t k h e)
] refl

same_front : (p a b : List Step) → path_cmp (p ++ a) (p ++ b) ≡ path_cmp a b
same_front [] a b = refl
same_front (x ∷ p) a b = ap (λ o. ordering_then o (path_cmp (p ++ a) (p ++ b))) (tied_itself step_cmp-IsTotalOrder x) ∙ same_front p a b

abbrev put_front : List Step → Row → Row
put_front p r = record { path = p ++ r.path; cell = r.cell }

front_come : (p : List Step) (ys : List Row) → merge [] (from_path p ys) ≡ moved p (merge [] ys)
front_come p [] = refl
front_come p (y ∷ ys) = ap (λ (l : List Change). come (put_front p y) ∷ l) (front_come p ys)

front_met : (p : List Step) (x y : Row) (l l' : List Change) → l ≡ moved p l' → met (put_front p x) (put_front p y) ++ l ≡ moved p (met x y ++ l')
front_met p x y l l' e = elim (same_cell (Some x.cell) (Some y.cell)) as (λ b.
    (if b then [] else record { path = p ++ x.path; before = Some x.cell; after = Some y.cell } ∷ []) ++ l ≡ moved p ((if b then [] else record { path = x.path; before = Some x.cell; after = Some y.cell } ∷ []) ++ l')) [
      | true ↦ e
      | false ↦ ap (λ (l : List Change). record { path = p ++ x.path; before = Some x.cell; after = Some y.cell } ∷ l) e
    ]

front_row : (p : List Step) (x : Row) (xs : List Row) → ((ys : List Row) → merge (from_path p xs) (from_path p ys) ≡ moved p (merge xs ys)) → (ys : List Row) → merge (from_path p (x ∷ xs)) (from_path p ys) ≡ moved p (merge (x ∷ xs) ys)
front_row p x xs ih [] = ap (λ (l : List Change). gone (put_front p x) ∷ l) (ih [])
front_row p x xs ih (y ∷ ys) =
    ap (λ r. match_ordering r (gone (put_front p x) ∷ merge (from_path p xs) (from_path p (y ∷ ys))) (met (put_front p x) (put_front p y) ++ merge (from_path p xs) (from_path p ys)) (come (put_front p y) ∷ merge_row (put_front p x) (merge (from_path p xs)) (from_path p ys))) (same_front p x.path y.path)
    ∙ elim (path_cmp x.path y.path) as (λ r.
    match_ordering r (gone (put_front p x) ∷ merge (from_path p xs) (from_path p (y ∷ ys))) (met (put_front p x) (put_front p y) ++ merge (from_path p xs) (from_path p ys)) (come (put_front p y) ∷ merge_row (put_front p x) (merge (from_path p xs)) (from_path p ys))
    ≡ moved p (match_ordering r (gone x ∷ merge xs (y ∷ ys)) (met x y ++ merge xs ys) (come y ∷ merge_row x (merge xs) ys))) [
      | Less ↦ ap (λ (l : List Change). gone (put_front p x) ∷ l) (ih (y ∷ ys))
      | Equal ↦ front_met p x y _ (merge xs ys) (ih ys)
      | Greater ↦ ap (λ (l : List Change). come (put_front p y) ∷ l) (front_row p x xs ih ys)
    ]

merge-from_path : (p : List Step) (xs ys : List Row) → merge (from_path p xs) (from_path p ys) ≡ moved p (merge xs ys)
merge-from_path p [] ys = front_come p ys
merge-from_path p (x ∷ xs) ys = front_row p x xs (λ zs. merge-from_path p xs zs) ys

merge-under : (t u : Tree) (p : List Step) → IsGrove t.kids → IsGrove u.kids → merge (under (rows_of t) p) (under (rows_of u) p) ≡ moved p (merge (rows_at (at (Some t) p)) (rows_at (at (Some u) p)))
merge-under t u p g h = (λ i. merge (under-at t p g i) (under-at u p h i)) ∙ merge-from_path p (rows_at (at (Some t) p)) (rows_at (at (Some u) p))

pub agree-at : (t u : Tree) (p : List Step) → Agree t u → AgreeFrom (at (Some t) p) (at (Some u) p)
agree-at t u p agree r n m a b e = agree (p ++ r) n m (at-append (Some t) p r ∙ a) (at-append (Some u) p r ∙ b) e

pub stands-at : (t : Tree) (p : List Step) → IsWhole t → length p ≤ 32 → Stands (at (Some t) p) (length p)
stands-at t p w l = record { sound = sound-at (Some t) p w.ordered; low = low (at (Some t) p) refl }
  where
    low : (o : Option Tree) → at (Some t) p ≡ o → depth_of o + length p ≤ 32
    low None e = omega (arith, l)
    low (Some k) e = low-node t p k w l e

alike-none : (o u : Option Tree) → alike o u ≡ true → AgreeFrom o u → merge (rows_at o) (rows_at u) ≡ []
alike-none None None e agree = refl
alike-none None (Some u) e agree = cc
alike-none (Some t) None e agree = cc
alike-none (Some t) (Some u) e agree =
    let same : t ≡ u = agree [] t u refl refl (eqb→eq t.stamp u.stamp (subst T (sym e) tt)) in
    ap (λ (v : Tree). merge (rows_of t) (rows_of v)) (sym same) ∙ merge-itself (rows_of t)

pub alike-under : (t u : Tree) (p : List Step) → IsWhole t → IsWhole u → Agree t u → alike (at (Some t) p) (at (Some u) p) ≡ true → [] ≡ merge (under (rows_of t) p) (under (rows_of u) p)
alike-under t u p g h agree e = sym (merge-under t u p g.ordered h.ordered ∙ ap (moved p) (alike-none (at (Some t) p) (at (Some u) p) e (agree-at t u p agree)))

pub walked-under : (t u : Tree) (p : List Step) (o v : Option Tree) → IsWhole t → IsWhole u → o ≡ at (Some t) p → v ≡ at (Some u) p → [] ++ moved p (merge (rows_at o) (rows_at v)) ≡ merge (under (rows_of t) p) (under (rows_of u) p)
walked-under t u p o v g h a b = (λ k. moved p (merge (rows_at (a k)) (rows_at (b k)))) ∙ sym (merge-under t u p g.ordered h.ordered)
