-- The rows of a tree, by their cells.
use Rattle.std.proofs.Common.{◌≡◌, Bool, true, false, List, [], ◌∷◌, ◌++◌, ◌&&◌, ◌||◌, Option, Some, None, refl, ap, sym, ◌∙◌, subst, cond, if◌then◌else◌}
use Rattle.std.specs.Prelude.{T}
use Rattle.std.specs.Option.{option_or}
use Rattle.std.specs.Ordering.{is_lt, ordering_then}
use Rattle.std.specs.declared.cmp.Ordering.TheVariants.{Less}
use Rattle.std.specs.Cmp.{tied_itself}
use Rattle.std.specs.FinMap.{find, is_sorted}
use Rattle.std.specs.FinMap.Entries.{below_all}
use Rattle.sal_types.specs.declared.value.Step.{Step}
use Rattle.sal_types.specs.declared.value.Cell.{Cell}
use Rattle.sal_types.specs.declared.row.Row.{Row}
use Rattle.sal_types.specs.Order.{step_cmp, path_cmp, path_eq, step_cmp-IsTotalOrder}
use Rattle.sal_types.specs.Prefix.{is_prefix}
use Rattle.sal_types.specs.Tree.{cell, has, entries, IsAscending}
use Rattle.sal_types.proofs.Trees.{IsTrue-from_T}
use Rattle.sal_node.specs.Tree.{Tree, Forest, bare, grown, pairs, IsGrove, is_filled}
use Rattle.sal_node.proofs.Entries.{first, second, both, less}
use Rattle.sal_tree.specs.Grow.{cell_in, at, present}
use Rattle.sal_tree.specs.Rows.{here, below, rows_in, rows_of}
use Rattle.sal_tree.proofs.Laws.{eq, missing}
use Rattle.sal_types.proofs.Handy.{then_eq}

pub cell-append : (xs ys : List Row) (p : List Step) → cell (xs ++ ys) p ≡ option_or (cell xs p) (cell ys p)
cell-append [] ys p = refl
cell-append (x ∷ xs) ys p = elim (path_eq p x.path) as (λ b. (if b then Some x.cell else cell (xs ++ ys) p) ≡ option_or (if b then Some x.cell else cell xs p) (cell ys p)) [ true ↦ refl | false ↦ cell-append xs ys p ]

pub cell-below : (x : Step) (rows : List Row) (y : Step) (p : List Step) → cell (below x rows) (y ∷ p) ≡ cond (eq y x) (cell rows p) None
cell-below x [] y p = elim (eq y x) as (λ b. None ≡ cond b (cell [] p) None) [ true ↦ refl | false ↦ refl ]
cell-below x (r ∷ rows) y p =
    ap (λ b. if b then Some r.cell else cell (below x rows) (y ∷ p)) (then_eq (step_cmp y x) (path_cmp p r.path))
    ∙ ap (λ o. if (eq y x && path_eq p r.path) then Some r.cell else o) (cell-below x rows y p)
    ∙ elim (eq y x) as (λ b. (if (b && path_eq p r.path) then Some r.cell else cond b (cell rows p) None) ≡ cond b (if path_eq p r.path then Some r.cell else cell rows p) None) [ true ↦ refl | false ↦ refl ]

pub cell-below_root : (x : Step) (rows : List Row) → cell (below x rows) [] ≡ None
cell-below_root x [] = refl
cell-below_root x (r ∷ rows) = cell-below_root x rows

cell-in_root : (f : Forest) → cell (rows_in f) [] ≡ None
cell-in_root bare = refl
cell-in_root (grown x s c ks rest) = cell-append (below x (here c ++ rows_in ks)) (rows_in rest) [] ∙ ap (λ o. option_or o (cell (rows_in rest) [])) (cell-below_root x (here c ++ rows_in ks)) ∙ cell-in_root rest

cell-here : (c : Option Cell) (y : Step) (p : List Step) → cell (here c) (y ∷ p) ≡ None
cell-here None y p = refl
cell-here (Some c) y p = refl

cell-here_root : (c : Option Cell) → cell (here c) [] ≡ c
cell-here_root None = refl
cell-here_root (Some c) = refl

pub or_none : (o : Option Cell) → option_or o None ≡ o
or_none None = refl
or_none (Some c) = refl

-- the rows of a node, by those of its children
cell-node : (t : Tree) (p : List Step) → ((y : Step) (q : List Step) → cell (rows_in t.kids) (y ∷ q) ≡ cell_in (at (find step_cmp y (pairs t.kids)) q)) → cell (rows_of t) p ≡ cell_in (at (Some t) p)
cell-node t [] hyp = cell-append (here t.cell) (rows_in t.kids) [] ∙ (λ i. option_or (cell-here_root t.cell i) (cell-in_root t.kids i)) ∙ or_none t.cell
cell-node t (y ∷ p) hyp = cell-append (here t.cell) (rows_in t.kids) (y ∷ p) ∙ ap (λ o. option_or o (cell (rows_in t.kids) (y ∷ p))) (cell-here t.cell y p) ∙ hyp y p

pub cell-rows_in : (f : Forest) → IsGrove f → (y : Step) (p : List Step) → cell (rows_in f) (y ∷ p) ≡ cell_in (at (find step_cmp y (pairs f)) p)
cell-rows_in bare h y p = at_none p
  where
    at_none : (p : List Step) → None ≡ cell_in (at None p)
    at_none [] = refl
    at_none (x ∷ p) = at_none p
cell-rows_in (grown x s c ks rest) h y p =
    let k : Tree = record { stamp = s; cell = c; kids = ks } in
    let inner = cell-node k p (cell-rows_in ks h.1.0) in
    let outer = cell-rows_in rest h.1.1 y p in
    cell-append (below x (here c ++ rows_in ks)) (rows_in rest) (y ∷ p)
    ∙ (λ i. option_or (cell-below x (here c ++ rows_in ks) y p i) (outer i))
    ∙ elim (eq y x) as (λ b. eq y x ≡ b → option_or (cond b (cell (rows_of k) p) None) (cell_in (at (find step_cmp y (pairs rest)) p)) ≡ cell_in (at (cond b (Some k) (find step_cmp y (pairs rest))) p)) [
      | true ↦ λ t. ap (λ o. option_or (cell (rows_of k) p) (cell_in (at o p))) (missing y x (pairs rest) t h.0.0) ∙ ap (option_or (cell (rows_of k) p)) (none_at p) ∙ or_none _ ∙ inner
      | false ↦ λ t. refl
    ] refl
  where
    none_at : (p : List Step) → cell_in (at None p) ≡ None
    none_at [] = refl
    none_at (x ∷ p) = none_at p

-- the cell of a tree's row is that of its node
pub cell-rows_of : (t : Tree) → IsGrove t.kids → (p : List Step) → cell (rows_of t) p ≡ cell_in (at (Some t) p)
cell-rows_of t h p = cell-node t p (cell-rows_in t.kids h)

-- the order of the rows
below_below : (x : Step) (q : List Step) (rows : List Row) → T (below_all path_cmp q (entries rows)) → T (below_all path_cmp (x ∷ q) (entries (below x rows)))
below_below x q [] h = tt
below_below x q (r ∷ rows) h = both _ _ (subst (λ o. T (is_lt (ordering_then o (path_cmp q r.path)))) (sym (tied_itself step_cmp-IsTotalOrder x)) (first (is_lt (path_cmp q r.path)) (below_all path_cmp q (entries rows)) h)) (below_below x q rows (second (is_lt (path_cmp q r.path)) _ h))

pub sorted-below : (x : Step) (rows : List Row) → T (is_sorted path_cmp (entries rows)) → T (is_sorted path_cmp (entries (below x rows)))
sorted-below x [] h = tt
sorted-below x (r ∷ rows) h = both _ _ (below_below x r.path rows (first _ (is_sorted path_cmp (entries rows)) h)) (sorted-below x rows (second (below_all path_cmp r.path (entries rows)) _ h))

before-append : (q : List Step) (xs ys : List Row) → T (below_all path_cmp q (entries xs)) → T (below_all path_cmp q (entries ys)) → T (below_all path_cmp q (entries (xs ++ ys)))
before-append q [] ys g h = h
before-append q (r ∷ xs) ys g h = both _ _ (first _ _ g) (before-append q xs ys (second (is_lt (path_cmp q r.path)) _ g) h)

abbrev AllAbove : List Row → List Row → Type 0
AllAbove [] ys = Unit {0}
AllAbove (r ∷ xs) ys = T (below_all path_cmp r.path (entries ys)) × AllAbove xs ys

sorted-append : (xs ys : List Row) → T (is_sorted path_cmp (entries xs)) → T (is_sorted path_cmp (entries ys)) → AllAbove xs ys → T (is_sorted path_cmp (entries (xs ++ ys)))
sorted-append [] ys g h a = h
sorted-append (r ∷ xs) ys g h a = both _ _ (before-append r.path xs ys (first _ (is_sorted path_cmp (entries xs)) g) a.0) (sorted-append xs ys (second (below_all path_cmp r.path (entries xs)) _ g) h a.1)

-- a path that begins with a smaller step
before-below : (x y : Step) (q : List Step) (rows : List Row) → step_cmp x y ≡ Less → T (below_all path_cmp (x ∷ q) (entries (below y rows)))
before-below x y q [] e = tt
before-below x y q (r ∷ rows) e = both _ _ (subst (λ o. T (is_lt (ordering_then o (path_cmp q r.path)))) (sym e) tt) (before-below x y q rows e)

before-in : (x : Step) (q : List Step) (f : Forest) → T (below_all step_cmp x (pairs f)) → T (below_all path_cmp (x ∷ q) (entries (rows_in f)))
before-in x q bare h = tt
before-in x q (grown y s c ks rest) h = before-append (x ∷ q) (below y (here c ++ rows_in ks)) (rows_in rest) (before-below x y q (here c ++ rows_in ks) (less _ (first _ _ h))) (before-in x q rest (second (is_lt (step_cmp x y)) _ h))

all-above : (x : Step) (rows : List Row) (f : Forest) → T (below_all step_cmp x (pairs f)) → AllAbove (below x rows) (rows_in f)
all-above x [] f h = tt
all-above x (r ∷ rows) f h = (before-in x r.path f h, all-above x rows f h)

root_before : (f : Forest) → T (below_all path_cmp [] (entries (rows_in f)))
root_before bare = tt
root_before (grown x s c ks rest) = before-append [] (below x (here c ++ rows_in ks)) (rows_in rest) (root_before_below x (here c ++ rows_in ks)) (root_before rest)
  where
    root_before_below : (x : Step) (rows : List Row) → T (below_all path_cmp [] (entries (below x rows)))
    root_before_below x [] = tt
    root_before_below x (r ∷ rows) = both true (below_all path_cmp [] (entries (below x rows))) tt (root_before_below x rows)

sorted-node : (c : Option Cell) (f : Forest) → T (is_sorted path_cmp (entries (rows_in f))) → T (is_sorted path_cmp (entries (here c ++ rows_in f)))
sorted-node None f h = h
sorted-node (Some c) f h = both _ _ (root_before f) h

pub sorted-rows_in : (f : Forest) → IsGrove f → T (is_sorted path_cmp (entries (rows_in f)))
sorted-rows_in bare h = tt
sorted-rows_in (grown x s c ks rest) h =
    sorted-append (below x (here c ++ rows_in ks)) (rows_in rest) (sorted-below x (here c ++ rows_in ks) (sorted-node c ks (sorted-rows_in ks h.1.0))) (sorted-rows_in rest h.1.1) (all-above x (here c ++ rows_in ks) rest h.0.0)

pub ascending-rows_of : (t : Tree) → IsGrove t.kids → IsAscending (rows_of t)
ascending-rows_of t h = IsTrue-from_T _ (sorted-node t.cell t.kids (sorted-rows_in t.kids h))

-- presence
has-append : (xs ys : List Row) (p : List Step) → has (xs ++ ys) p ≡ (has xs p || has ys p)
has-append [] ys p = refl
has-append (r ∷ xs) ys p = elim (is_prefix p r.path) as (λ b. (b || has (xs ++ ys) p) ≡ ((b || has xs p) || has ys p)) [ true ↦ refl | false ↦ has-append xs ys p ]

has-below : (x : Step) (rows : List Row) (y : Step) (p : List Step) → has (below x rows) (y ∷ p) ≡ (eq y x && has rows p)
has-below x [] y p = elim (eq y x) as (λ b. false ≡ (b && false)) [ true ↦ refl | false ↦ refl ]
has-below x (r ∷ rows) y p = ap (λ b. (eq y x && is_prefix p r.path) || b) (has-below x rows y p) ∙ elim (eq y x) as (λ b. ((b && is_prefix p r.path) || (b && has rows p)) ≡ (b && (is_prefix p r.path || has rows p))) [ true ↦ refl | false ↦ refl ]

has-here : (c : Option Cell) (y : Step) (p : List Step) → has (here c) (y ∷ p) ≡ false
has-here None y p = refl
has-here (Some c) y p = refl

has-below_root : (x : Step) (rows : List Row) → has (below x rows) [] ≡ has rows []
has-below_root x [] = refl
has-below_root x (r ∷ rows) = refl

so : (b : Bool) → T b → b ≡ true
so true h = refl
so false h = absurd h

has-node_root : (c : Option Cell) (f : Forest) → has (rows_in f) [] ≡ is_filled None f → has (here c ++ rows_in f) [] ≡ is_filled c f
has-node_root None f e = e
has-node_root (Some c) f e = refl

has-in_root : (f : Forest) → IsGrove f → has (rows_in f) [] ≡ is_filled None f
has-in_root bare h = refl
has-in_root (grown x s c ks rest) h =
    has-append (below x (here c ++ rows_in ks)) (rows_in rest) []
    ∙ ap (λ b. b || has (rows_in rest) []) (has-below_root x (here c ++ rows_in ks) ∙ has-node_root c ks (has-in_root ks h.1.0) ∙ so _ h.0.1)

none_present : (p : List Step) → present (at None p) ≡ false
none_present [] = refl
none_present (x ∷ p) = none_present p

pub or_false : (b : Bool) → (b || false) ≡ b
or_false true = refl
or_false false = refl

has-node : (t : Tree) (p : List Step) → IsGrove t.kids → ((y : Step) (q : List Step) → has (rows_in t.kids) (y ∷ q) ≡ present (at (find step_cmp y (pairs t.kids)) q)) → has (rows_of t) p ≡ present (at (Some t) p)
has-node t [] h hyp = has-node_root t.cell t.kids (has-in_root t.kids h)
has-node t (y ∷ p) h hyp = has-append (here t.cell) (rows_in t.kids) (y ∷ p) ∙ ap (λ b. b || has (rows_in t.kids) (y ∷ p)) (has-here t.cell y p) ∙ hyp y p

pub has-rows_in : (f : Forest) → IsGrove f → (y : Step) (p : List Step) → has (rows_in f) (y ∷ p) ≡ present (at (find step_cmp y (pairs f)) p)
has-rows_in bare h y p = sym (none_present p)
has-rows_in (grown x s c ks rest) h y p =
    let k : Tree = record { stamp = s; cell = c; kids = ks } in
    let inner = has-node k p h.1.0 (has-rows_in ks h.1.0) in
    let outer = has-rows_in rest h.1.1 y p in
    has-append (below x (here c ++ rows_in ks)) (rows_in rest) (y ∷ p)
    ∙ (λ i. has-below x (here c ++ rows_in ks) y p i || outer i)
    ∙ elim (eq y x) as (λ b. eq y x ≡ b → ((b && has (rows_of k) p) || present (at (find step_cmp y (pairs rest)) p)) ≡ present (at (cond b (Some k) (find step_cmp y (pairs rest))) p)) [
      | true ↦ λ t. ap (λ o. has (rows_of k) p || present (at o p)) (missing y x (pairs rest) t h.0.0) ∙ ap (λ b. has (rows_of k) p || b) (none_present p) ∙ or_false _ ∙ inner
      | false ↦ λ t. refl
    ] refl

-- a tree has a path if there is a node with rows at it
pub has-rows_of : (t : Tree) → IsGrove t.kids → (p : List Step) → has (rows_of t) p ≡ present (at (Some t) p)
has-rows_of t h p = has-node t p h (has-rows_in t.kids h)
