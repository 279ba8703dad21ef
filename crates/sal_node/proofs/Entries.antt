-- Entries in the order of their steps: the one at a step, and the list with another one there.
use Rattle.std.proofs.Common.{◌≡◌, suc, ◌+◌, ◌≤◌, true, false, List, [], ◌∷◌, ◌++◌, length, take, Option, Some, None, refl, ap, sym, ◌∙◌, subst, cond, arith}
use Rattle.std.specs.Prelude.{T}
use Rattle.std.specs.Ordering.{is_gt, is_lt, is_eq, eq_by_cmp, ordering_reverse}
use Rattle.std.specs.declared.cmp.Ordering.{Ordering}
use Rattle.std.specs.declared.cmp.Ordering.TheVariants.{Less, Equal, Greater}
use Rattle.std.specs.FinMap.{find, put, is_sorted}
use Rattle.std.specs.FinMap.Entries.{below_all, by_order}
use Rattle.sal_types.specs.declared.value.Step.{Step}
use Rattle.sal_types.specs.Order.{step_cmp, step_cmp-IsTotalOrder, step_cmp-IsAntisymmetric}
pub use Rattle.sal_types.proofs.TrueParts.{first, second, both}
use Rattle.sal_node.specs.Tree.{Tree, Forest, bare, grown, pairs, grove, cut, change, place, after, one_of}
pub use Rattle.sal_types.proofs.Handy.{less}

abbrev pub Entries : Type 0
Entries = List (Step × Tree)

pub greater : (o : Ordering) → is_gt o ≡ true → o ≡ Greater
greater Less e = cc
greater Equal e = cc
greater Greater e = refl

pub turn : (x y : Step) → step_cmp x y ≡ Less → step_cmp y x ≡ Greater
turn x y e = step_cmp-IsTotalOrder.antisymm y x ∙ ap ordering_reverse e

pub turn_back : (x y : Step) → step_cmp x y ≡ Greater → step_cmp y x ≡ Less
turn_back x y e = step_cmp-IsTotalOrder.antisymm y x ∙ ap ordering_reverse e

-- every entry is before the step
abbrev pub AllBefore : Step → Entries → Type 0
AllBefore x [] = Unit {0}
AllBefore x (e ∷ es) = (step_cmp x e.0 ≡ Greater) × AllBefore x es

pub change-front : (x : Step) (o : Option Tree) (front es : Entries) → AllBefore x front → change x o (front ++ es) ≡ front ++ change x o es
change-front x o [] es h = refl
change-front x None (e ∷ front) es h = ap (λ r. by_order r (e ∷ (front ++ es)) (front ++ es) (e ∷ cut x (front ++ es))) h.0 ∙ ap (λ (l : Entries). e ∷ l) (change-front x None front es h.1)
change-front x (Some t) (e ∷ front) es h = ap (λ r. by_order r ((x, t) ∷ e ∷ (front ++ es)) ((e.0, t) ∷ (front ++ es)) (e ∷ put step_cmp x t (front ++ es))) h.0 ∙ ap (λ (l : Entries). e ∷ l) (change-front x (Some t) front es h.1)

pub find-front : (x : Step) (front es : Entries) → AllBefore x front → find step_cmp x (front ++ es) ≡ find step_cmp x es
find-front x [] es h = refl
find-front x (e ∷ front) es h = ap (λ r. cond (is_eq r) (Some e.1) (find step_cmp x (front ++ es))) h.0 ∙ find-front x front es h.1

change_before : (x : Step) (o : Option Tree) (back : Entries) → T (below_all step_cmp x back) → change x o back ≡ change x o [] ++ back
change_before x None [] h = refl
change_before x (Some t) [] h = refl
change_before x None (e ∷ back) h = ap (λ r. by_order r (e ∷ back) back (e ∷ cut x back)) (less _ (first _ _ h))
change_before x (Some t) (e ∷ back) h = ap (λ r. by_order r ((x, t) ∷ e ∷ back) ((e.0, t) ∷ back) (e ∷ put step_cmp x t back)) (less _ (first _ _ h))

pub change-back : (x : Step) (o : Option Tree) (es back : Entries) → T (below_all step_cmp x back) → change x o (es ++ back) ≡ change x o es ++ back
change-back x o [] back h = change_before x o back h
change-back x None (e ∷ es) back h =
    elim (step_cmp x e.0) as (λ r. by_order r (e ∷ (es ++ back)) (es ++ back) (e ∷ cut x (es ++ back)) ≡ by_order r (e ∷ es) es (e ∷ cut x es) ++ back) [
      | Less ↦ refl
      | Equal ↦ refl
      | Greater ↦ ap (λ (l : Entries). e ∷ l) (change-back x None es back h)
    ]
change-back x (Some t) (e ∷ es) back h =
    elim (step_cmp x e.0) as (λ r. by_order r ((x, t) ∷ e ∷ (es ++ back)) ((e.0, t) ∷ (es ++ back)) (e ∷ put step_cmp x t (es ++ back)) ≡ by_order r ((x, t) ∷ e ∷ es) ((e.0, t) ∷ es) (e ∷ put step_cmp x t es) ++ back) [
      | Less ↦ refl
      | Equal ↦ refl
      | Greater ↦ ap (λ (l : Entries). e ∷ l) (change-back x (Some t) es back h)
    ]

pub find_above : (x : Step) (back : Entries) → T (below_all step_cmp x back) → find step_cmp x back ≡ None
find_above x [] h = refl
find_above x (e ∷ back) h = ap (λ r. cond (is_eq r) (Some e.1) (find step_cmp x back)) (less _ (first _ _ h)) ∙ find_above x back (second (is_lt (step_cmp x e.0)) _ h)

pub find-back : (x : Step) (es back : Entries) → T (below_all step_cmp x back) → find step_cmp x (es ++ back) ≡ find step_cmp x es
find-back x [] back h = find_above x back h
find-back x (e ∷ es) back h = ap (λ o. cond (eq_by_cmp step_cmp x e.0) (Some e.1) o) (find-back x es back h)

-- the list with another entry, in three parts
pub change-parts : (x : Step) (o : Option Tree) (es : Entries) → change x o es ≡ take (place x es) es ++ (one_of x o ++ after x es)
change-parts x None [] = refl
change-parts x (Some t) [] = refl
change-parts x None (e ∷ es) =
    elim (step_cmp x e.0) as (λ r. by_order r (e ∷ es) es (e ∷ cut x es) ≡ take (by_order r 0 0 (1 + place x es)) (e ∷ es) ++ by_order r (e ∷ es) es (after x es)) [
      | Less ↦ refl
      | Equal ↦ refl
      | Greater ↦ ap (λ (l : Entries). e ∷ l) (change-parts x None es) ∙ ap (λ n. take n (e ∷ es) ++ after x es) (let q : suc (place x es) ≡ 1 + place x es = omega arith in q)
    ]
change-parts x (Some t) (e ∷ es) =
    elim (step_cmp x e.0) as (λ r. step_cmp x e.0 ≡ r → by_order r ((x, t) ∷ e ∷ es) ((e.0, t) ∷ es) (e ∷ put step_cmp x t es) ≡ take (by_order r 0 0 (1 + place x es)) (e ∷ es) ++ ((x, t) ∷ by_order r (e ∷ es) es (after x es))) [
      | Less ↦ λ q. refl
      | Equal ↦ λ q. ap (λ (y : Step). (y, t) ∷ es) (sym (step_cmp-IsAntisymmetric x e.0 q))
      | Greater ↦ λ q. ap (λ (l : Entries). e ∷ l) (change-parts x (Some t) es) ∙ ap (λ n. take n (e ∷ es) ++ ((x, t) ∷ after x es)) (let q : suc (place x es) ≡ 1 + place x es = omega arith in q)
    ] refl

-- in a rising list, the entries before one that is not after the step
pub sorted-front : (x : Step) (front : Entries) (e : Step × Tree) (es : Entries) → T (is_sorted step_cmp (front ++ (e ∷ es))) → is_gt (step_cmp e.0 x) ≡ false → AllBefore x front
sorted-front x [] e es h g = tt
sorted-front x (f ∷ front) e es h g =
    (turn f.0 x (upto (step_cmp e.0 x) (last_below f.0 front e es (first _ (is_sorted step_cmp (front ++ (e ∷ es))) h)) g refl), sorted-front x front e es (second (below_all step_cmp f.0 (front ++ (e ∷ es))) _ h) g)
  where
    last_below : (y : Step) (front : Entries) (e : Step × Tree) (es : Entries) → T (below_all step_cmp y (front ++ (e ∷ es))) → step_cmp y e.0 ≡ Less
    last_below y [] e es h = less _ (first _ _ h)
    last_below y (f ∷ front) e es h = last_below y front e es (second (is_lt (step_cmp y f.0)) _ h)

    upto : (o : Ordering) → step_cmp f.0 e.0 ≡ Less → is_gt o ≡ false → step_cmp e.0 x ≡ o → step_cmp f.0 x ≡ Less
    upto Less p q r = step_cmp-IsTotalOrder.trans f.0 e.0 x p r
    upto Equal p q r = step_cmp-IsTotalOrder.antisymm f.0 x ∙ ap ordering_reverse (sym (step_cmp-IsTotalOrder.congr e.0 x f.0 r) ∙ turn f.0 e.0 p)
    upto Greater p q r = cc

-- in a rising list, the entries from one after the step on
pub sorted-tail : (front es : Entries) → T (is_sorted step_cmp (front ++ es)) → T (is_sorted step_cmp es)
sorted-tail [] es h = h
sorted-tail (f ∷ front) es h = sorted-tail front es (second (below_all step_cmp f.0 (front ++ es)) _ h)

pub below_less : (x y : Step) (es : Entries) → step_cmp x y ≡ Less → T (below_all step_cmp y es) → T (below_all step_cmp x es)
below_less x y [] p h = tt
below_less x y (e ∷ es) p h = both _ _ (subst (λ r. T (is_lt r)) (sym (step_cmp-IsTotalOrder.trans x y e.0 p (less _ (first _ _ h)))) tt) (below_less x y es p (second (is_lt (step_cmp y e.0)) _ h))

pub sorted-above : (x : Step) (e : Step × Tree) (es : Entries) → T (is_sorted step_cmp (e ∷ es)) → is_gt (step_cmp e.0 x) ≡ true → T (below_all step_cmp x (e ∷ es))
sorted-above x e es h g =
    let l : step_cmp x e.0 ≡ Less = turn_back e.0 x (greater _ g) in
    both _ _ (subst (λ r. T (is_lt r)) (sym l) tt) (below_less x e.0 es l (first _ (is_sorted step_cmp es) h))

pub change-length : (x : Step) (o : Option Tree) (es : Entries) → length (change x o es) ≤ length es + 1
change-length x None [] = omega arith
change-length x (Some t) [] = omega arith
change-length x None (e ∷ es) = let h = change-length x None es in elim (step_cmp x e.0) as (λ r. length (by_order r (e ∷ es) es (e ∷ cut x es)) ≤ suc (length es) + 1) [ Less ↦ omega arith | Equal ↦ omega arith | Greater ↦ omega (arith, h) ]
change-length x (Some t) (e ∷ es) = let h = change-length x (Some t) es in elim (step_cmp x e.0) as (λ r. length (by_order r ((x, t) ∷ e ∷ es) ((e.0, t) ∷ es) (e ∷ put step_cmp x t es)) ≤ suc (length es) + 1) [ Less ↦ omega arith | Equal ↦ omega arith | Greater ↦ omega (arith, h) ]

below_front : (x : Step) (es back : Entries) → T (below_all step_cmp x (es ++ back)) → T (below_all step_cmp x es)
below_front x [] back h = tt
below_front x (e ∷ es) back h = both _ _ (first _ _ h) (below_front x es back (second (is_lt (step_cmp x e.0)) _ h))

pub sorted-front_part : (es back : Entries) → T (is_sorted step_cmp (es ++ back)) → T (is_sorted step_cmp es)
sorted-front_part [] back h = tt
sorted-front_part (e ∷ es) back h = both _ _ (below_front e.0 es back (first _ (is_sorted step_cmp (es ++ back)) h)) (sorted-front_part es back (second (below_all step_cmp e.0 (es ++ back)) _ h))

pub pairs-grove : (es : Entries) → pairs (grove es) ≡ es
pairs-grove [] = refl
pairs-grove (e ∷ es) = ap (λ (l : Entries). e ∷ l) (pairs-grove es)

pub grove-pairs : (f : Forest) → grove (pairs f) ≡ f
grove-pairs bare = refl
grove-pairs (grown x s c ks rest) = ap (grown x s c ks) (grove-pairs rest)
