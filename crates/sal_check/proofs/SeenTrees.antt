-- The children of a place in rows are those in the tree of nodes.
use Rattle.std.proofs.Common.{◌≡◌, Bool, true, false, List, [], ◌∷◌, ◌++◌, Option, Some, None, refl, ap, sym, ◌∙◌, cond, if◌then◌else◌, append-nil}
use Rattle.std.specs.Prelude.{is_some}
use Rattle.std.proofs.lemmas.Grind.{flat_map-append}
use Rattle.std.specs.FinMap.{find}
use Rattle.sal_types.specs.declared.value.Step.{Step}
use Rattle.sal_types.specs.declared.value.Cell.{Cell}
use Rattle.sal_types.specs.declared.row.Row.{Row}
use Rattle.sal_types.specs.Order.{step_cmp}
use Rattle.sal_types.specs.Tree.{cell, has}
use Rattle.sal_node.specs.Tree.{Tree, Forest, bare, grown, pairs, IsGrove}
use Rattle.sal_tree.specs.Grow.{at, kids_in, cell_in, present}
use Rattle.sal_tree.specs.Rows.{here, below, rows_in, rows_of}
use Rattle.sal_tree.proofs.Cells.{cell-rows_of, has-rows_of}
use Rattle.sal_tree.proofs.Laws.{eq, missing, at-append}
use Rattle.sal_check.specs.Nodes.{own_steps, seen_in}
use Rattle.sal_rules.specs.Seen.{entries, step_past, seen_from, further}
pub use Rattle.sal_tree.proofs.Edited.{at_none}

entries-append : (xs ys : List Row) (p : List Step) → entries (xs ++ ys) p ≡ entries xs p ++ entries ys p
entries-append xs ys p = flat_map-append (λ (row : Row). step_past p row.path) xs ys

-- ---- at the root

entries-two_below : (x y : Step) (rows : List Row) → entries (below x (below y rows)) [] ≡ []
entries-two_below x y [] = refl
entries-two_below x y (row ∷ rows) = entries-two_below x y rows

below-append : (x : Step) (xs ys : List Row) → below x (xs ++ ys) ≡ below x xs ++ below x ys
below-append x [] ys = refl
below-append x (row ∷ xs) ys = ap (λ (rows : List Row). record { path = x ∷ row.path; cell = row.cell } ∷ rows) (below-append x xs ys)

entries-below_kids : (x : Step) (f : Forest) → entries (below x (rows_in f)) [] ≡ []
entries-below_kids x bare = refl
entries-below_kids x (grown y s c ks rest) =
    ap (λ rows. entries rows []) (below-append x (below y (here c ++ rows_in ks)) (rows_in rest))
    ∙ entries-append (below x (below y (here c ++ rows_in ks))) (below x (rows_in rest)) []
    ∙ (λ i. entries-two_below x y (here c ++ rows_in ks) i ++ entries-below_kids x rest i)

entries-below_here : (x : Step) (c : Option Cell) (more : List Step) → entries (below x (here c)) [] ++ more ≡ (if is_some c then x ∷ more else more)
entries-below_here x None more = refl
entries-below_here x (Some c) more = refl

entries-in_root : (f : Forest) → entries (rows_in f) [] ≡ own_steps (pairs f)
entries-in_root bare = refl
entries-in_root (grown x s c ks rest) =
    entries-append (below x (here c ++ rows_in ks)) (rows_in rest) []
    ∙ ap (λ rows. entries rows [] ++ entries (rows_in rest) []) (below-append x (here c) (rows_in ks))
    ∙ ap (λ l. l ++ entries (rows_in rest) []) (entries-append (below x (here c)) (below x (rows_in ks)) [] ∙ ap (λ l. entries (below x (here c)) [] ++ l) (entries-below_kids x ks) ∙ append-nil (entries (below x (here c)) []))
    ∙ ap (λ l. entries (below x (here c)) [] ++ l) (entries-in_root rest)
    ∙ entries-below_here x c (own_steps (pairs rest))

entries-here_root : (c : Option Cell) → entries (here c) [] ≡ []
entries-here_root None = refl
entries-here_root (Some c) = refl

entries-here : (c : Option Cell) (y : Step) (p : List Step) → entries (here c) (y ∷ p) ≡ []
entries-here None y p = refl
entries-here (Some c) y p = refl

-- ---- further down

nothing : (b : Bool) → entries [] [] ≡ cond b (entries [] []) []
nothing true = refl
nothing false = refl

entries-below : (x : Step) (rows : List Row) (y : Step) (p : List Step) → entries (below x rows) (y ∷ p) ≡ cond (eq y x) (entries rows p) []
entries-below x [] y p = nothing (eq y x)
entries-below x (row ∷ rows) y p =
    ap (λ l. (if eq y x then step_past p row.path else []) ++ l) (entries-below x rows y p)
    ∙ elim (eq y x) as (λ b. (if b then step_past p row.path else []) ++ cond b (entries rows p) [] ≡ cond b (step_past p row.path ++ entries rows p) []) [ true ↦ refl | false ↦ refl ]

entries-node : (t : Tree) (p : List Step) → ((y : Step) (q : List Step) → entries (rows_in t.kids) (y ∷ q) ≡ own_steps (kids_in (at (find step_cmp y (pairs t.kids)) q))) → entries (rows_of t) p ≡ own_steps (kids_in (at (Some t) p))
entries-node t [] hyp = entries-append (here t.cell) (rows_in t.kids) [] ∙ ap (λ l. l ++ entries (rows_in t.kids) []) (entries-here_root t.cell) ∙ entries-in_root t.kids
entries-node t (y ∷ p) hyp = entries-append (here t.cell) (rows_in t.kids) (y ∷ p) ∙ ap (λ l. l ++ entries (rows_in t.kids) (y ∷ p)) (entries-here t.cell y p) ∙ hyp y p

entries-rows_in : (f : Forest) → IsGrove f → (y : Step) (p : List Step) → entries (rows_in f) (y ∷ p) ≡ own_steps (kids_in (at (find step_cmp y (pairs f)) p))
entries-rows_in bare h y p = sym (ap (λ o. own_steps (kids_in o)) (at_none p))
entries-rows_in (grown x s c ks rest) h y p =
    let k : Tree = record { stamp = s; cell = c; kids = ks } in
    let inner = entries-node k p (entries-rows_in ks h.1.0) in
    let outer = entries-rows_in rest h.1.1 y p in
    entries-append (below x (here c ++ rows_in ks)) (rows_in rest) (y ∷ p)
    ∙ (λ i. entries-below x (here c ++ rows_in ks) y p i ++ outer i)
    ∙ elim (eq y x) as (λ b. eq y x ≡ b → cond b (entries (rows_of k) p) [] ++ own_steps (kids_in (at (find step_cmp y (pairs rest)) p)) ≡ own_steps (kids_in (at (cond b (Some k) (find step_cmp y (pairs rest))) p))) [
      | true ↦ λ t. ap (λ o. entries (rows_of k) p ++ own_steps (kids_in (at o p))) (missing y x (pairs rest) t h.0.0) ∙ ap (λ o. entries (rows_of k) p ++ own_steps (kids_in o)) (at_none p) ∙ append-nil (entries (rows_of k) p) ∙ inner
      | false ↦ λ t. refl
    ] refl

pub entries-rows_of : (t : Tree) → IsGrove t.kids → (p : List Step) → entries (rows_of t) p ≡ own_steps (kids_in (at (Some t) p))
entries-rows_of t h p = entries-node t p (entries-rows_in t.kids h)

-- ---- all that is seen

pub seen-rows_of : (t : Tree) → IsGrove t.kids → (q : List Step) → seen_from (rows_of t) q ≡ seen_in (at (Some t) q)
seen-rows_of t h q = λ i. record { has = λ p. has_at p i; cell = λ p. cell_at p i; entries = λ p. entries_at p i }
  where
    has_at : (p : List Step) → has (rows_of t) (q ++ p) ≡ present (at (at (Some t) q) p)
    has_at p = has-rows_of t h (q ++ p) ∙ ap present (at-append (Some t) q p)

    cell_at : (p : List Step) → cell (rows_of t) (q ++ p) ≡ cell_in (at (at (Some t) q) p)
    cell_at p = cell-rows_of t h (q ++ p) ∙ ap cell_in (at-append (Some t) q p)

    entries_at : (p : List Step) → entries (rows_of t) (q ++ p) ≡ own_steps (kids_in (at (at (Some t) q) p))
    entries_at p = entries-rows_of t h (q ++ p) ∙ ap (λ o. own_steps (kids_in o)) (at-append (Some t) q p)

pub further-seen : (o : Option Tree) (q : List Step) → further (seen_in o) q ≡ seen_in (at o q)
further-seen o q = λ i. record { has = λ p. present (at-append o q p i); cell = λ p. cell_in (at-append o q p i); entries = λ p. own_steps (kids_in (at-append o q p i)) }
