-- The cells of a merge at each path; it is the list of changes.
use Rattle.std.proofs.Common.{◌≡◌, true, false, List, [], ◌∷◌, ◌++◌, Option, Some, None, map, refl, ap, sym, ◌∙◌, subst, if◌then◌else◌}
use Rattle.std.specs.Prelude.{T}
use Rattle.std.specs.Ordering.{match_ordering, is_eq, is_lt, ordering_reverse}
use Rattle.std.specs.declared.cmp.Ordering.TheVariants.{Less, Equal, Greater}
use Rattle.std.specs.FinMap.Entries.{below_all}
use Rattle.sal_types.specs.declared.value.Step.{Step}
use Rattle.sal_types.specs.declared.value.Cell.{Cell}
use Rattle.sal_types.specs.declared.row.Row.{Row}
use Rattle.sal_types.specs.Order.{path_cmp, path_eq, path_cmp-IsTotalOrder, path_cmp-IsAntisymmetric}
use Rattle.sal_types.specs.Prefix.{is_prefix}
use Rattle.sal_types.specs.Tree.{cell, under, entries, IsAscending}
use Rattle.sal_types.proofs.Trees.{T-from_IsTrue}
use Rattle.sal_rows.proofs.Cells.{same_path, IsAscending-filter}
use Rattle.sal_rows.proofs.Differing.{Rises, Above, same_changes, at-changes, rises-changes}
use Rattle.sal_node.proofs.Entries.{first, both, less}
use Rattle.sal_tree.proofs.Parts.{Rising, Behind, behind-first, rising-rest, behind-rest}
use Rattle.sal_rows.specs.declared.change.Change.{Change}
use Rattle.sal_rows.specs.Changes.{same_cell, changes, changes_under, change_at, differing}
use Rattle.sal_node.specs.Tree.{Tree}
use Rattle.sal_tree.specs.Grow.{at}
use Rattle.sal_tree.specs.Alike.{alike}
use Rattle.sal_tree.specs.Follows.{Agree}
use Rattle.sal_tree.specs.Rows.{here, rows_of}
use Rattle.sal_tree.specs.Whole.{IsWhole}
use Rattle.sal_tree.proofs.Cells.{ascending-rows_of}
use Rattle.sal_delta.specs.ByOps.{change_of}
use Rattle.sal_delta.specs.Merge.{gone, come, met, merge_row, merge, rows_at, moved}
use Rattle.sal_delta.proofs.Tops.{alike-under, walked-under}
use Rattle.sal_tree.proofs.Laws.{less_T}

none-behind : (p : List Step) (ys : List Row) → Behind p ys → cell ys p ≡ None
none-behind p [] h = refl
none-behind p (y ∷ ys) h = ap (λ o. if is_eq o then Some y.cell else cell ys p) (less _ (first (is_lt (path_cmp p y.path)) (below_all path_cmp p (entries ys)) h)) ∙ none-behind p ys (behind-rest p y ys h)

behind-less : (p q : List Step) (ys : List Row) → path_cmp p q ≡ Less → Behind q ys → Behind p ys
behind-less p q [] e h = tt
behind-less p q (y ∷ ys) e h = both _ _ (less_T _ (path_cmp-IsTotalOrder.trans p q y.path e (less _ (first (is_lt (path_cmp q y.path)) (below_all path_cmp q (entries ys)) h)))) (behind-less p q ys e (behind-rest q y ys h))

behind-all : (p : List Step) (y : Row) (ys : List Row) → path_cmp p y.path ≡ Less → Rising (y ∷ ys) → Behind p (y ∷ ys)
behind-all p y ys e h = both _ _ (less_T _ e) (behind-less p y.path ys e (behind-first y ys h))

flipped : (p q : List Step) → path_cmp p q ≡ Greater → path_cmp q p ≡ Less
flipped p q e = path_cmp-IsTotalOrder.antisymm q p ∙ ap ordering_reverse e

at-come : (ys : List Row) (r : List Step) → change_at (map come ys) r ≡ differing None (cell ys r)
at-come [] r = refl
at-come (y ∷ ys) r = elim (path_eq r y.path) as (λ b. (if b then Some (None, Some y.cell) else change_at (map come ys) r) ≡ differing None (if b then Some y.cell else cell ys r)) [ true ↦ refl | false ↦ at-come ys r ]

at_met : (x y : Row) (l : List Change) (r : List Step) (c d : Option Cell) → change_at l r ≡ differing c d → (path_eq r x.path ≡ true → change_at l r ≡ None) →
    change_at (met x y ++ l) r ≡ differing (if path_eq r x.path then Some x.cell else c) (if path_eq r x.path then Some y.cell else d)
at_met x y l r c d h none =
    elim (path_eq r x.path) as (λ b. path_eq r x.path ≡ b → change_at (met x y ++ l) r ≡ differing (if b then Some x.cell else c) (if b then Some y.cell else d)) [
      | true ↦ λ e. elim (same_cell (Some x.cell) (Some y.cell)) as (λ s.
          change_at ((if s then [] else record { path = x.path; before = Some x.cell; after = Some y.cell } ∷ []) ++ l) r ≡ (if s then None else Some (Some x.cell, Some y.cell))) [
            | true ↦ none e
            | false ↦ ap (λ b. if b then Some (Some x.cell, Some y.cell) else change_at l r) e
          ]
      | false ↦ λ e. elim (same_cell (Some x.cell) (Some y.cell)) as (λ s.
          change_at ((if s then [] else record { path = x.path; before = Some x.cell; after = Some y.cell } ∷ []) ++ l) r ≡ differing c d) [
            | true ↦ h
            | false ↦ ap (λ b. if b then Some (Some x.cell, Some y.cell) else change_at l r) e ∙ h
          ]
    ] refl

at_row : (x : Row) (xs : List Row) (r : List Step) → ((ys : List Row) → Rising ys → change_at (merge xs ys) r ≡ differing (cell xs r) (cell ys r)) → Rising (x ∷ xs) → (ys : List Row) → Rising ys →
    change_at (merge (x ∷ xs) ys) r ≡ differing (cell (x ∷ xs) r) (cell ys r)
at_row x xs r ih g [] h = elim (path_eq r x.path) as (λ b. (if b then Some (Some x.cell, None) else change_at (merge xs []) r) ≡ differing (if b then Some x.cell else cell xs r) None) [ true ↦ refl | false ↦ ih [] tt ]
at_row x xs r ih g (y ∷ ys) h =
    elim (path_cmp x.path y.path) as (λ o. path_cmp x.path y.path ≡ o →
    change_at (match_ordering o (gone x ∷ merge xs (y ∷ ys)) (met x y ++ merge xs ys) (come y ∷ merge_row x (merge xs) ys)) r ≡ differing (cell (x ∷ xs) r) (cell (y ∷ ys) r)) [
      | Less ↦ λ o. elim (path_eq r x.path) as (λ b. path_eq r x.path ≡ b → (if b then Some (Some x.cell, None) else change_at (merge xs (y ∷ ys)) r) ≡ differing (if b then Some x.cell else cell xs r) (cell (y ∷ ys) r)) [
        | true ↦ λ b. ap (differing (Some x.cell)) (sym (ap (cell (y ∷ ys)) (same_path r x.path b) ∙ none-behind x.path (y ∷ ys) (behind-all x.path y ys o h)))
        | false ↦ λ b. ih (y ∷ ys) h
      ] refl
      | Equal ↦ λ o.
          let same : x.path ≡ y.path = path_cmp-IsAntisymmetric x.path y.path o in
          at_met x y (merge xs ys) r (cell xs r) (cell ys r) (ih ys (rising-rest y ys h)) (λ b.
          ih ys (rising-rest y ys h)
          ∙ (λ k. differing ((ap (cell xs) (same_path r x.path b) ∙ none-behind x.path xs (behind-first x xs g)) k) ((ap (cell ys) (same_path r x.path b ∙ same) ∙ none-behind y.path ys (behind-first y ys h)) k)))
          ∙ ap (λ p. differing (cell (x ∷ xs) r) (if path_eq r p then Some y.cell else cell ys r)) same
      | Greater ↦ λ o. elim (path_eq r y.path) as (λ b. path_eq r y.path ≡ b → (if b then Some (None, Some y.cell) else change_at (merge (x ∷ xs) ys) r) ≡ differing (cell (x ∷ xs) r) (if b then Some y.cell else cell ys r)) [
        | true ↦ λ b. ap (λ c. differing c (Some y.cell)) (sym (ap (cell (x ∷ xs)) (same_path r y.path b) ∙ none-behind y.path (x ∷ xs) (behind-all y.path x xs (flipped x.path y.path o) g)))
        | false ↦ λ b. at_row x xs r ih g ys (rising-rest y ys h)
      ] refl
    ] refl

pub at-merge : (xs ys : List Row) (r : List Step) → Rising xs → Rising ys → change_at (merge xs ys) r ≡ differing (cell xs r) (cell ys r)
at-merge [] ys r g h = at-come ys r
at-merge (x ∷ xs) ys r g h = at_row x xs r (λ zs k. at-merge xs zs r (rising-rest x xs g) k) g ys h

-- the order of a merge
above_come : (p : List Step) (ys : List Row) → Behind p ys → Above p (map come ys)
above_come p [] h = tt
above_come p (y ∷ ys) h = both _ _ (first (is_lt (path_cmp p y.path)) (below_all path_cmp p (entries ys)) h) (above_come p ys (behind-rest p y ys h))

above_met : (p : List Step) (x y : Row) (l : List Change) → T (is_lt (path_cmp p x.path)) → Above p l → Above p (met x y ++ l)
above_met p x y l e h = elim (same_cell (Some x.cell) (Some y.cell)) as (λ s. Above p ((if s then [] else record { path = x.path; before = Some x.cell; after = Some y.cell } ∷ []) ++ l)) [ true ↦ h | false ↦ both _ _ e h ]

above_row : (p : List Step) (x : Row) (xs : List Row) → ((ys : List Row) → Behind p ys → Above p (merge xs ys)) → Behind p (x ∷ xs) → (ys : List Row) → Behind p ys → Above p (merge (x ∷ xs) ys)
above_row p x xs ih g [] h = both _ _ (first (is_lt (path_cmp p x.path)) (below_all path_cmp p (entries xs)) g) (ih [] tt)
above_row p x xs ih g (y ∷ ys) h = elim (path_cmp x.path y.path) as (λ o. Above p (match_ordering o (gone x ∷ merge xs (y ∷ ys)) (met x y ++ merge xs ys) (come y ∷ merge_row x (merge xs) ys))) [
  | Less ↦ both _ _ (first (is_lt (path_cmp p x.path)) (below_all path_cmp p (entries xs)) g) (ih (y ∷ ys) h)
  | Equal ↦ above_met p x y (merge xs ys) (first (is_lt (path_cmp p x.path)) (below_all path_cmp p (entries xs)) g) (ih ys (behind-rest p y ys h))
  | Greater ↦ both _ _ (first (is_lt (path_cmp p y.path)) (below_all path_cmp p (entries ys)) h) (above_row p x xs ih g ys (behind-rest p y ys h))
]

above-merge : (p : List Step) (xs ys : List Row) → Behind p xs → Behind p ys → Above p (merge xs ys)
above-merge p [] ys g h = above_come p ys h
above-merge p (x ∷ xs) ys g h = above_row p x xs (λ zs k. above-merge p xs zs (behind-rest p x xs g) k) g ys h

rises_come : (ys : List Row) → Rising ys → Rises (map come ys)
rises_come [] h = tt
rises_come (y ∷ ys) h = both _ _ (above_come y.path ys (behind-first y ys h)) (rises_come ys (rising-rest y ys h))

rises_met : (x y : Row) (l : List Change) → Above x.path l → Rises l → Rises (met x y ++ l)
rises_met x y l e h = elim (same_cell (Some x.cell) (Some y.cell)) as (λ s. Rises ((if s then [] else record { path = x.path; before = Some x.cell; after = Some y.cell } ∷ []) ++ l)) [ true ↦ h | false ↦ both _ _ e h ]

rises_row : (x : Row) (xs : List Row) → ((ys : List Row) → Rising ys → Rises (merge xs ys)) → Rising (x ∷ xs) → (ys : List Row) → Rising ys → Rises (merge (x ∷ xs) ys)
rises_row x xs ih g [] h = both _ _ (above-merge x.path xs [] (behind-first x xs g) tt) (ih [] tt)
rises_row x xs ih g (y ∷ ys) h = elim (path_cmp x.path y.path) as (λ o. path_cmp x.path y.path ≡ o → Rises (match_ordering o (gone x ∷ merge xs (y ∷ ys)) (met x y ++ merge xs ys) (come y ∷ merge_row x (merge xs) ys))) [
  | Less ↦ λ o. both _ _ (above-merge x.path xs (y ∷ ys) (behind-first x xs g) (behind-all x.path y ys o h)) (ih (y ∷ ys) h)
  | Equal ↦ λ o. rises_met x y (merge xs ys) (above-merge x.path xs ys (behind-first x xs g) (subst (λ p. Behind p ys) (sym (path_cmp-IsAntisymmetric x.path y.path o)) (behind-first y ys h))) (ih ys (rising-rest y ys h))
  | Greater ↦ λ o. both _ _ (above-merge y.path (x ∷ xs) ys (behind-all y.path x xs (flipped x.path y.path o) g) (behind-first y ys h)) (rises_row x xs ih g ys (rising-rest y ys h))
] refl

pub rises-merge : (xs ys : List Row) → Rising xs → Rising ys → Rises (merge xs ys)
rises-merge [] ys g h = rises_come ys h
rises-merge (x ∷ xs) ys g h = rises_row x xs (λ zs k. rises-merge xs zs (rising-rest x xs g) k) g ys h

-- the merge of two trees is the list of their changes
pub merge-changes : (xs ys : List Row) → IsAscending xs → IsAscending ys → merge xs ys ≡ changes xs ys
merge-changes xs ys g h = same_changes (merge xs ys) (changes xs ys) (rises-merge xs ys (T-from_IsTrue _ g) (T-from_IsTrue _ h)) (rises-changes xs ys g) (λ r.
    at-merge xs ys r (T-from_IsTrue _ g) (T-from_IsTrue _ h) ∙ sym (at-changes xs ys r h))

-- ---- two trees

pub append_none : (xs : List Change) → xs ++ [] ≡ xs
append_none [] = refl
append_none (x ∷ xs) = ap (λ (l : List Change). x ∷ l) (append_none xs)

merge-changes_under : (t u : Tree) (p : List Step) → IsWhole t → IsWhole u → merge (under (rows_of t) p) (under (rows_of u) p) ≡ changes_under (rows_of t) (rows_of u) p
merge-changes_under t u p g h = merge-changes (under (rows_of t) p) (under (rows_of u) p) (IsAscending-filter (is_prefix p) (rows_of t) (ascending-rows_of t g.ordered)) (IsAscending-filter (is_prefix p) (rows_of u) (ascending-rows_of u h.ordered))

-- where the stamps say that nothing changed
pub alike-changes : (t u : Tree) (p : List Step) → IsWhole t → IsWhole u → Agree t u → alike (at (Some t) p) (at (Some u) p) ≡ true → [] ≡ changes_under (rows_of t) (rows_of u) p
alike-changes t u p g h agree e = alike-under t u p g h agree e ∙ merge-changes_under t u p g h

-- where a walk goes over the nodes
pub walked-changes : (t u : Tree) (p : List Step) (o v : Option Tree) → IsWhole t → IsWhole u → o ≡ at (Some t) p → v ≡ at (Some u) p → moved p (merge (rows_at o) (rows_at v)) ≡ changes_under (rows_of t) (rows_of u) p
walked-changes t u p o v g h a b = walked-under t u p o v g h a b ∙ merge-changes_under t u p g h

path_none : (p : List Step) → p ++ [] ≡ p
path_none [] = refl
path_none (x ∷ p) = ap (λ (q : List Step). x ∷ q) (path_none p)

-- the change of a node itself
pub moved-here : (p : List Step) (c d : Option Cell) → moved p (merge (here c) (here d)) ≡ change_of p c d
moved-here p None None = refl
moved-here p None (Some d) = ap (λ (q : List Step). record { path = q; before = None; after = Some d } ∷ []) (path_none p)
moved-here p (Some c) None = ap (λ (q : List Step). record { path = q; before = Some c; after = None } ∷ []) (path_none p)
moved-here p (Some c) (Some d) = elim (same_cell (Some c) (Some d)) as (λ s. moved p ((if s then [] else record { path = []; before = Some c; after = Some d } ∷ []) ++ []) ≡ (if s then [] else record { path = p; before = Some c; after = Some d } ∷ [])) [
  | true ↦ refl
  | false ↦ ap (λ (q : List Step). record { path = q; before = Some c; after = Some d } ∷ []) (path_none p)
]
