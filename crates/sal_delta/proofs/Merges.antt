-- Merges of rows, part by part.
use Rattle.std.proofs.Common.{◌≡◌, true, false, List, [], ◌∷◌, ◌++◌, Option, Some, None, map, refl, ap, sym, ◌∙◌, if◌then◌else◌}
use Rattle.std.proofs.lemmas.List.{append-nil}
use Rattle.std.specs.Prelude.{T}
use Rattle.std.specs.Ordering.{match_ordering, is_eq, is_lt, ordering_then, ordering_reverse}
use Rattle.std.specs.declared.cmp.Ordering.TheVariants.{Less, Equal, Greater}
use Rattle.std.specs.Cmp.{tied_itself}
use Rattle.std.specs.FinMap.Entries.{below_all}
use Rattle.sal_types.specs.declared.value.Step.{Step}
use Rattle.sal_types.specs.declared.value.Cell.{Cell}
use Rattle.sal_types.specs.declared.row.Row.{Row}
use Rattle.sal_types.specs.Order.{step_cmp, path_cmp, step_cmp-IsTotalOrder, path_cmp-IsTotalOrder}
use Rattle.sal_types.specs.contracts.value.CellOrd.TheImpl.Laws as cell_ord_laws
use Rattle.sal_node.proofs.Entries.{first, second, less, Entries}
use Rattle.sal_tree.specs.Rows.{here, below, rows_of}
use Rattle.sal_rows.specs.declared.change.Change.{Change}
use Rattle.sal_rows.specs.Changes.{same_cell}
use Rattle.sal_delta.specs.Merge.{gone, come, met, merge_row, merge, rows_below, from_step}

-- the first of the rows, if there is one, is after the row
abbrev pub HeadAfter : Row → List Row → Type 0
HeadAfter a [] = Unit {0}
HeadAfter a (y ∷ ys) = path_cmp a.path y.path ≡ Less

-- so for each of these rows
abbrev pub Precede : List Row → List Row → Type 0
Precede [] ys = Unit {0}
Precede (a ∷ xs) ys = HeadAfter a ys × Precede xs ys

pub turned : (p q : List Step) → path_cmp p q ≡ Less → path_cmp q p ≡ Greater
turned p q e = path_cmp-IsTotalOrder.antisymm q p ∙ ap ordering_reverse e

pub gone-front : (front xs ys : List Row) → Precede front ys → merge (front ++ xs) ys ≡ map gone front ++ merge xs ys
gone-front [] xs ys h = refl
gone-front (a ∷ front) xs [] h = ap (λ (l : List Change). gone a ∷ l) (gone-front front xs [] h.1)
gone-front (a ∷ front) xs (y ∷ ys) h =
    ap (λ r. match_ordering r (gone a ∷ merge (front ++ xs) (y ∷ ys)) (met a y ++ merge (front ++ xs) ys) (come y ∷ merge_row a (merge (front ++ xs)) ys)) h.0
    ∙ ap (λ (l : List Change). gone a ∷ l) (gone-front front xs (y ∷ ys) h.1)

come-append : (xs ys : List Row) → map come (xs ++ ys) ≡ map come xs ++ map come ys
come-append [] ys = refl
come-append (x ∷ xs) ys = ap (λ (l : List Change). come x ∷ l) (come-append xs ys)

pub come-front : (front xs ys : List Row) → Precede front xs → merge xs (front ++ ys) ≡ map come front ++ merge xs ys
come-front front [] ys h = come-append front ys
come-front [] (x ∷ xs) ys h = refl
come-front (b ∷ front) (x ∷ xs) ys h =
    ap (λ r. match_ordering r (gone x ∷ merge xs (b ∷ (front ++ ys))) (met x b ++ merge xs (front ++ ys)) (come b ∷ merge_row x (merge xs) (front ++ ys))) (turned b.path x.path h.0)
    ∙ ap (λ (l : List Change). come b ∷ l) (come-front front (x ∷ xs) ys h.1)

pub gone-all : (xs : List Row) → merge xs [] ≡ map gone xs
gone-all [] = refl
gone-all (x ∷ xs) = ap (λ (l : List Change). gone x ∷ l) (gone-all xs)

from_step-gone : (x : Step) (xs : List Row) → from_step x (map gone xs) ≡ map gone (below x xs)
from_step-gone x [] = refl
from_step-gone x (r ∷ xs) = ap (λ (l : List Change). gone (record { path = x ∷ r.path; cell = r.cell }) ∷ l) (from_step-gone x xs)

from_step-come : (x : Step) (xs : List Row) → from_step x (map come xs) ≡ map come (below x xs)
from_step-come x [] = refl
from_step-come x (r ∷ xs) = ap (λ (l : List Change). come (record { path = x ∷ r.path; cell = r.cell }) ∷ l) (from_step-come x xs)

same_step : (x : Step) (p q : List Step) → path_cmp (x ∷ p) (x ∷ q) ≡ path_cmp p q
same_step x p q = ap (λ o. ordering_then o (path_cmp p q)) (tied_itself step_cmp-IsTotalOrder x)

abbrev lift : Step → Row → Row
lift x r = record { path = x ∷ r.path; cell = r.cell }

abbrev Fronts : Step → List Row → List Row → List Row → List Row → Type 0
Fronts x ts us xs ys = merge (below x ts ++ xs) (below x us ++ ys) ≡ from_step x (merge ts us) ++ merge xs ys

met_front : (x : Step) (t u : Row) (l l' rest : List Change) → l ≡ from_step x l' ++ rest → met (lift x t) (lift x u) ++ l ≡ from_step x (met t u ++ l') ++ rest
met_front x t u l l' rest e = elim (same_cell (Some t.cell) (Some u.cell)) as (λ b.
    (if b then [] else record { path = x ∷ t.path; before = Some t.cell; after = Some u.cell } ∷ []) ++ l
    ≡ from_step x ((if b then [] else record { path = t.path; before = Some t.cell; after = Some u.cell } ∷ []) ++ l') ++ rest) [
      | true ↦ e
      | false ↦ ap (λ (l : List Change). record { path = x ∷ t.path; before = Some t.cell; after = Some u.cell } ∷ l) e
    ]

front_row : (x : Step) (t : Row) (ts xs ys : List Row) → ((us : List Row) → Precede (below x us) xs → Fronts x ts us xs ys) → Precede (below x (t ∷ ts)) ys → (us : List Row) → Precede (below x us) xs → Fronts x (t ∷ ts) us xs ys
front_row x t ts xs ys ih g [] h = gone-front (below x (t ∷ ts)) xs ys g ∙ ap (λ (l : List Change). l ++ merge xs ys) (sym (from_step-gone x (t ∷ ts)) ∙ ap (from_step x) (sym (gone-all (t ∷ ts))))
front_row x t ts xs ys ih g (u ∷ us) h =
    ap (λ r. match_ordering r (gone (lift x t) ∷ merge (below x ts ++ xs) (below x (u ∷ us) ++ ys)) (met (lift x t) (lift x u) ++ merge (below x ts ++ xs) (below x us ++ ys)) (come (lift x u) ∷ merge_row (lift x t) (merge (below x ts ++ xs)) (below x us ++ ys))) (same_step x t.path u.path)
    ∙ elim (path_cmp t.path u.path) as (λ r.
    match_ordering r (gone (lift x t) ∷ merge (below x ts ++ xs) (below x (u ∷ us) ++ ys)) (met (lift x t) (lift x u) ++ merge (below x ts ++ xs) (below x us ++ ys)) (come (lift x u) ∷ merge_row (lift x t) (merge (below x ts ++ xs)) (below x us ++ ys))
    ≡ from_step x (match_ordering r (gone t ∷ merge ts (u ∷ us)) (met t u ++ merge ts us) (come u ∷ merge_row t (merge ts) us)) ++ merge xs ys) [
      | Less ↦ ap (λ (l : List Change). gone (lift x t) ∷ l) (ih (u ∷ us) h)
      | Equal ↦ met_front x t u _ (merge ts us) (merge xs ys) (ih us h.1)
      | Greater ↦ ap (λ (l : List Change). come (lift x u) ∷ l) (front_row x t ts xs ys ih g us h.1)
    ]

-- rows below one step, in front of both lists
pub both-front : (x : Step) (ts us xs ys : List Row) → Precede (below x ts) ys → Precede (below x us) xs → Fronts x ts us xs ys
both-front x [] us xs ys g h = come-front (below x us) xs ys h ∙ ap (λ (l : List Change). l ++ merge xs ys) (sym (from_step-come x us))
both-front x (t ∷ ts) us xs ys g h = front_row x t ts xs ys (λ vs k. both-front x ts vs xs ys g.1 k) g us h

pub merge-itself : (xs : List Row) → merge xs xs ≡ []
merge-itself [] = refl
merge-itself (x ∷ xs) =
    ap (λ r. match_ordering r (gone x ∷ merge xs (x ∷ xs)) (met x x ++ merge xs xs) (come x ∷ merge_row x (merge xs) xs)) (tied_itself path_cmp-IsTotalOrder x.path)
    ∙ ap (λ r. (if is_eq r then [] else record { path = x.path; before = Some x.cell; after = Some x.cell } ∷ []) ++ merge xs xs) (tied_itself cell_ord_laws.total-law x.cell)
    ∙ merge-itself xs

head_append : (x y : Step) (r : Row) (us ys : List Row) → step_cmp x y ≡ Less → HeadAfter (lift x r) ys → HeadAfter (lift x r) (below y us ++ ys)
head_append x y r [] ys e h = h
head_append x y r (u ∷ us) ys e h = ap (λ o. ordering_then o (path_cmp r.path u.path)) e

head_below : (x : Step) (r : Row) (es : Entries) → T (below_all step_cmp x es) → HeadAfter (lift x r) (rows_below es)
head_below x r [] h = tt
head_below x r (e ∷ es) h = head_append x e.0 r (rows_of e.1) (rows_below es) (less _ (first _ _ h)) (head_below x r es (second (is_lt (step_cmp x e.0)) _ h))

pub precede-below : (x : Step) (ts : List Row) (es : Entries) → T (below_all step_cmp x es) → Precede (below x ts) (rows_below es)
precede-below x [] es h = tt
precede-below x (t ∷ ts) es h = (head_below x t es h, precede-below x ts es h)

head_root : (c : Cell) (es : Entries) → HeadAfter (record { path = []; cell = c }) (rows_below es)
head_root c [] = tt
head_root c (e ∷ es) = by_rows (rows_of e.1) (head_root c es)
  where
    by_rows : (us : List Row) → HeadAfter (record { path = []; cell = c }) (rows_below es) → HeadAfter (record { path = []; cell = c }) (below e.0 us ++ rows_below es)
    by_rows [] h = h
    by_rows (u ∷ us) h = refl

-- the cell of a node, and its children
pub merge-node : (c d : Option Cell) (es fs : Entries) → merge (here c ++ rows_below es) (here d ++ rows_below fs) ≡ merge (here c) (here d) ++ merge (rows_below es) (rows_below fs)
merge-node None None es fs = refl
merge-node (Some c) None es fs = gone-front (here (Some c)) (rows_below es) (rows_below fs) (head_root c fs, tt)
merge-node None (Some d) es fs = come-front (here (Some d)) (rows_below es) (rows_below fs) (head_root d es, tt)
merge-node (Some c) (Some d) es fs = ap (λ (l : List Change). l ++ merge (rows_below es) (rows_below fs)) (sym (append-nil (met (record { path = []; cell = c }) (record { path = []; cell = d }))))
