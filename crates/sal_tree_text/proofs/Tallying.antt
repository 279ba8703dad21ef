-- Counting by children is counting their rows.
use Rattle.std.proofs.Common.{◌≡◌, ℕ, zero, suc, ◌+◌, ◌-◌, ◌<◌, ◌≤◌, List, [], ◌∷◌, ◌++◌, length, take, get_or, Option, Some, None, refl, ap, sym, ◌∙◌, arith, Bor, length-append}
use Rattle.std.specs.Prelude.{sum_by, map}
use Rattle.std.specs.List.{slice_get}
use Rattle.std.proofs.lemmas.List.Sums.{sum_by-cons}
use Rattle.std.specs.Option.{option_map_or}
use Rattle.sal_schema.specs.Paths.{last_step}
use Rattle.sal_types.specs.declared.value.Cell.{Cell}
use Rattle.sal_types.specs.declared.value.Step.{Step}
use Rattle.sal_types.specs.declared.row.Row.{Row}
use Rattle.sal_script.specs.Load.{number_of, number_at}
use Rattle.sal_node.specs.Tree.{Tree, Forest, bare, grown, pairs}
use Rattle.sal_node.specs.Shape.{seen}
use Rattle.sal_node.specs.declared.node.Child.{Child}
use Rattle.sal_tree.specs.Rows.{here, below, rows_in, rows_of}
use Rattle.sal_tree.proofs.ByChildren.{seen-length, take_all}
use Rattle.sal_tree_text.specs.Tallied.{own_row, own_number, rows_under, sum_under, rows_below, sum_below}

length-below : (x : Step) (rows : List Row) → length (below x rows) ≡ length rows
length-below x [] = refl
length-below x (r ∷ rows) = ap suc (length-below x rows)

own_rows : (c : Option Cell) (rows : List Row) → length (here c ++ rows) ≡ own_row c + length rows
own_rows None rows = omega arith
own_rows (Some c) rows = omega arith

pub rows_counted : (kids : Forest) → length (rows_in kids) ≡ rows_under kids
rows_counted bare = refl
rows_counted (grown x s c kids rest) =
    length-append (below x (here c ++ rows_in kids)) (rows_in rest)
    ∙ (λ i. length-below x (here c ++ rows_in kids) i + rows_counted rest i)
    ∙ ap (λ n. n + rows_under rest) (own_rows c (rows_in kids) ∙ ap (λ n. own_row c + n) (rows_counted kids))

sum-append : (xs ys : List Row) → sum_by number_of (xs ++ ys) ≡ sum_by number_of xs + sum_by number_of ys
sum-append [] ys = omega arith
sum-append (r ∷ xs) ys =
    let h = sum-append xs ys in
    let one = sum_by-cons number_of r xs in
    let all = sum_by-cons number_of r (xs ++ ys) in
    omega arith

-- rows below a step that have paths of their own
abbrev AreDeep : List Row → Type 0
AreDeep [] = Unit {0}
AreDeep (r ∷ rows) = ((x : Step) × (p : List Step) × (r.path ≡ x ∷ p)) × AreDeep rows

deep-below : (x : Step) (rows : List Row) → AreDeep (below x rows)
deep-below x [] = tt
deep-below x (r ∷ rows) = ((x, r.path, refl), deep-below x rows)

deep-append : (xs ys : List Row) → AreDeep xs → AreDeep ys → AreDeep (xs ++ ys)
deep-append [] ys h g = g
deep-append (r ∷ xs) ys h g = (h.0, deep-append xs ys h.1 g)

deep : (kids : Forest) → AreDeep (rows_in kids)
deep bare = tt
deep (grown x s c kids rest) = deep-append (below x (here c ++ rows_in kids)) (rows_in rest) (deep-below x (here c ++ rows_in kids)) (deep rest)

-- the last step of a longer path
last_behind : (x y : Step) (p : List Step) → last_step (x ∷ y ∷ p) ≡ last_step (y ∷ p)
last_behind x y p =
    let long : length (x ∷ y ∷ p) - 1 ≡ suc (length (y ∷ p) - 1) = omega arith in
    ap (slice_get (x ∷ y ∷ p)) long

-- a step before a longer path changes no number
same_number : (x : Step) (r : Row) (y : Step) (p : List Step) → r.path ≡ y ∷ p → number_of (record { path = x ∷ r.path; cell = r.cell }) ≡ number_of r
same_number x r y p e =
    ap (λ (q : List Step). option_map_or (number_at r.cell) (last_step (x ∷ q)) 0) e ∙ ap (λ o. option_map_or (number_at r.cell) o 0) (last_behind x y p)
    ∙ sym (ap (λ (q : List Step). option_map_or (number_at r.cell) (last_step q) 0) e)

sum-below : (x : Step) (rows : List Row) → AreDeep rows → sum_by number_of (below x rows) ≡ sum_by number_of rows
sum-below x [] h = refl
sum-below x (r ∷ rows) h =
    let (y, p, e) = h.0 in
    sum_by-cons number_of (record { path = x ∷ r.path; cell = r.cell }) (below x rows) ∙ (λ i. same_number x r y p e i + sum-below x rows h.1 i) ∙ sym (sum_by-cons number_of r rows)

own_sum : (x : Step) (c : Option Cell) (rows : List Row) → AreDeep rows → sum_by number_of (below x (here c ++ rows)) ≡ own_number x c + sum_by number_of rows
own_sum x None rows h = let e = sum-below x rows h in omega arith
own_sum x (Some c) rows h = sum_by-cons number_of (record { path = x ∷ []; cell = c }) (below x rows) ∙ ap (λ n. number_at c x + n) (sum-below x rows h)

pub sum_counted : (kids : Forest) → sum_by number_of (rows_in kids) ≡ sum_under kids
sum_counted bare = refl
sum_counted (grown x s c kids rest) =
    sum-append (below x (here c ++ rows_in kids)) (rows_in rest)
    ∙ (λ i. own_sum x c (rows_in kids) (deep kids) i + sum_counted rest i)
    ∙ ap (λ n. (own_number x c + n) + sum_under rest) (sum_counted kids)

-- a tree's own row has no number
own_none : (c : Option Cell) (rows : List Row) → sum_by number_of (here c ++ rows) ≡ sum_by number_of rows
own_none None rows = refl
own_none (Some c) rows = sum_by-cons number_of (record { path = []; cell = c }) rows ∙ omega arith

pub tree_rows : (t : Tree) → length (rows_of t) ≡ own_row t.cell + rows_under t.kids
tree_rows t = own_rows t.cell (rows_in t.kids) ∙ ap (λ n. own_row t.cell + n) (rows_counted t.kids)

pub tree_sum : (t : Tree) → sum_by number_of (rows_of t) ≡ sum_under t.kids
tree_sum t = own_none t.cell (rows_in t.kids) ∙ sum_counted t.kids

-- ---- child by child

pub rows_below-pairs : (kids : Forest) → rows_below (pairs kids) ≡ rows_under kids
rows_below-pairs bare = refl
rows_below-pairs (grown x s c kids rest) = ap (λ n. (own_row c + rows_under kids) + n) (rows_below-pairs rest)

pub sum_below-pairs : (kids : Forest) → sum_below (pairs kids) ≡ sum_under kids
sum_below-pairs bare = refl
sum_below-pairs (grown x s c kids rest) = ap (λ n. (own_number x c + sum_under kids) + n) (sum_below-pairs rest)

pub rows-more : (cs : List (Bor Child)) (i : ℕ) (c : Bor Child) → i < length cs → c ≡ get_or cs i c
    → rows_below (take (i + 1) (seen cs)) ≡ rows_below (take i (seen cs)) + (own_row c.now.node.value.cell + rows_under c.now.node.value.kids)
rows-more [] i c l at = absurd (omega arith)
rows-more (d ∷ cs) zero c l at = let e = ap (λ (b : Bor Child). own_row b.now.node.value.cell + rows_under b.now.node.value.kids) at in omega arith
rows-more (d ∷ cs) (suc i) c l at =
    let h = rows-more cs i c (omega arith) at in
    let q : suc i + 1 ≡ suc (i + 1) = omega arith in
    ap (λ n. rows_below (take n (seen (d ∷ cs)))) q ∙ ap (λ n. (own_row d.now.node.value.cell + rows_under d.now.node.value.kids) + n) h ∙ omega arith

pub sum-more : (cs : List (Bor Child)) (i : ℕ) (c : Bor Child) → i < length cs → c ≡ get_or cs i c
    → sum_below (take (i + 1) (seen cs)) ≡ sum_below (take i (seen cs)) + (own_number c.now.step c.now.node.value.cell + sum_under c.now.node.value.kids)
sum-more [] i c l at = absurd (omega arith)
sum-more (d ∷ cs) zero c l at = let e = ap (λ (b : Bor Child). own_number b.now.step b.now.node.value.cell + sum_under b.now.node.value.kids) at in omega arith
sum-more (d ∷ cs) (suc i) c l at =
    let h = sum-more cs i c (omega arith) at in
    let q : suc i + 1 ≡ suc (i + 1) = omega arith in
    ap (λ n. sum_below (take n (seen (d ∷ cs)))) q ∙ ap (λ n. (own_number d.now.step d.now.node.value.cell + sum_under d.now.node.value.kids) + n) h ∙ omega arith

-- what was counted of all children
pub all_rows : (cs : List (Bor Child)) (i : ℕ) (kids : Forest) → length cs ≤ i → seen cs ≡ pairs kids → rows_below (take i (seen cs)) ≡ rows_under kids
all_rows cs i kids l same = ap rows_below (take_all (seen cs) i (omega (arith, seen-length cs)) ∙ same) ∙ rows_below-pairs kids

pub all_sum : (cs : List (Bor Child)) (i : ℕ) (kids : Forest) → length cs ≤ i → seen cs ≡ pairs kids → sum_below (take i (seen cs)) ≡ sum_under kids
all_sum cs i kids l same = ap sum_below (take_all (seen cs) i (omega (arith, seen-length cs)) ∙ same) ∙ sum_below-pairs kids
