-- The place of a step among the children of a page.
use Rattle.std.specs.declared.sync.Arc.{Arc}
use Rattle.std.specs.declared.alloc.Global.{Global}
use Rattle.std.proofs.Common.{◌≡◌, ℕ, suc, zero, ◌+◌, ◌<◌, ◌≤◌, Bool, true, false, List, [], ◌∷◌, ◌++◌, length, take, drop, get_or, Option, Some, None, refl, ap, sym, ◌∙◌, cond, if◌then◌else◌, append_assoc, arith}
use Rattle.std.specs.Prelude.{T}
use Rattle.std.specs.Ordering.{is_gt, is_lt, is_eq}
use Rattle.std.specs.declared.cmp.Ordering.{Ordering}
use Rattle.std.specs.declared.cmp.Ordering.TheVariants.{Less, Equal, Greater}
use Rattle.std.specs.FinMap.{find, is_sorted}
use Rattle.std.specs.FinMap.Entries.{below_all, by_order}
use Rattle.sal_types.specs.declared.value.Step.{Step}
use Rattle.sal_types.specs.Order.{step_cmp, step_cmp-IsTotalOrder}
use Rattle.sal_node.specs.Tree.{Tree, place, after, change, one_of}
use Rattle.sal_node.specs.Shape.{row_of}
use Rattle.sal_node.specs.declared.node.Child.{Child}
use Rattle.sal_node.proofs.Entries.{greater, less, turn, turn_back, below_less, find_above, first, second, change-parts}

past_end : (cs : List (Arc Child Global)) (i : ℕ) → length cs ≤ i → drop i cs ≡ []
past_end [] zero l = refl
past_end [] (suc i) l = refl
past_end (c ∷ cs) zero l = absurd (omega arith)
past_end (c ∷ cs) (suc i) l = past_end cs i (omega arith)

below_at : (y : Step) (cs : List (Arc Child Global)) (i : ℕ) (c : Arc Child Global) → i < length cs → c ≡ get_or cs i c → T (below_all step_cmp y (row_of cs)) → step_cmp y c.value.step ≡ Less
below_at y [] i c l at h = absurd (omega arith)
below_at y (d ∷ cs) zero c l at h = ap (λ (e : Arc Child Global). step_cmp y e.value.step) at ∙ less _ (first _ (below_all step_cmp y (row_of cs)) h)
below_at y (d ∷ cs) (suc i) c l at h = below_at y cs i c (omega arith) at (second (is_lt (step_cmp y d.value.step)) _ h)

-- in rising children, a child before the step is before the place of the step
pub place-above : (x : Step) (cs : List (Arc Child Global)) (i : ℕ) (c : Arc Child Global) → T (is_sorted step_cmp (row_of cs)) → i < length cs → c ≡ get_or cs i c → is_gt (step_cmp x c.value.step) ≡ true → i < place x (row_of cs)
place-above x [] i c h l at g = absurd (omega arith)
place-above x (d ∷ cs) zero c h l at g =
    let e : place x (row_of (d ∷ cs)) ≡ 1 + place x (row_of cs) = ap (λ r. by_order r 0 0 (1 + place x (row_of cs))) (ap (λ (e : Arc Child Global). step_cmp x e.value.step) (sym at) ∙ greater _ g) in
    omega arith
place-above x (d ∷ cs) (suc i) c h l at g =
    let here = below_at d.value.step cs i c (omega arith) at (first _ (is_sorted step_cmp (row_of cs)) h) in
    let before = step_cmp-IsTotalOrder.trans d.value.step c.value.step x here (turn_back x c.value.step (greater _ g)) in
    let e : place x (row_of (d ∷ cs)) ≡ 1 + place x (row_of cs) = ap (λ r. by_order r 0 0 (1 + place x (row_of cs))) (turn d.value.step x before) in
    let rest = place-above x cs i c (second (below_all step_cmp d.value.step (row_of cs)) _ h) (omega arith) at g in
    omega arith

-- the place is no later than a child that is not before the step
pub place-below : (x : Step) (cs : List (Arc Child Global)) (i : ℕ) (c : Arc Child Global) → i < length cs → c ≡ get_or cs i c → is_gt (step_cmp x c.value.step) ≡ false → place x (row_of cs) ≤ i
place-below x [] i c l at g = absurd (omega arith)
place-below x (d ∷ cs) zero c l at g = stops (step_cmp x d.value.step) (ap (λ (e : Arc Child Global). is_gt (step_cmp x e.value.step)) (sym at) ∙ g)
  where
    stops : (o : Ordering) → is_gt o ≡ false → by_order o 0 0 (1 + place x (row_of cs)) ≤ 0
    stops Less e = omega arith
    stops Equal e = omega arith
    stops Greater e = cc
place-below x (d ∷ cs) (suc i) c l at g =
    let rest = place-below x cs i c (omega arith) at g in
    elim (step_cmp x d.value.step) as (λ r. by_order r 0 0 (1 + place x (row_of cs)) ≤ suc i) [ Less ↦ omega arith | Equal ↦ omega arith | Greater ↦ omega (arith, rest) ]

pub after-at : (x : Step) (cs : List (Arc Child Global)) (n : ℕ) (c : Arc Child Global) (b : Bool) → n ≡ place x (row_of cs) → n < length cs → c ≡ get_or cs n c → b ≡ is_eq (step_cmp x c.value.step) → row_of (drop (if b then n + 1 else n) cs) ≡ after x (row_of cs)
after-at x [] n c b = λ is l at tie. absurd (omega arith)
after-at x (d ∷ cs) n c b =
    elim (step_cmp x d.value.step) as (λ r. step_cmp x d.value.step ≡ r → n ≡ by_order r 0 0 (1 + place x (row_of cs)) → n < length (d ∷ cs) → c ≡ get_or (d ∷ cs) n c → b ≡ is_eq (step_cmp x c.value.step) → row_of (drop (if b then n + 1 else n) (d ∷ cs)) ≡ by_order r ((d.value.step, d.value.node.value) ∷ row_of cs) (row_of cs) (after x (row_of cs))) [
      | Less ↦ λ r is l at tie.
          let here : c ≡ d = at ∙ ap (λ m. get_or (d ∷ cs) m c) is in
          let no : b ≡ false = tie ∙ ap (λ (e : Arc Child Global). is_eq (step_cmp x e.value.step)) here ∙ ap is_eq r in
          ap (λ t. row_of (drop (if t then n + 1 else n) (d ∷ cs))) no ∙ ap (λ m. row_of (drop m (d ∷ cs))) is
      | Equal ↦ λ r is l at tie.
          let here : c ≡ d = at ∙ ap (λ m. get_or (d ∷ cs) m c) is in
          let yes : b ≡ true = tie ∙ ap (λ (e : Arc Child Global). is_eq (step_cmp x e.value.step)) here ∙ ap is_eq r in
          let one : n + 1 ≡ suc zero = omega (arith, is) in
          ap (λ t. row_of (drop (if t then n + 1 else n) (d ∷ cs))) yes ∙ ap (λ m. row_of (drop m (d ∷ cs))) one
      | Greater ↦ λ r is l at tie. later (λ m. after-at x cs m c b) n is l at tie
    ] refl
  where
    later : ((m : ℕ) → m ≡ place x (row_of cs) → m < length cs → c ≡ get_or cs m c → b ≡ is_eq (step_cmp x c.value.step) → row_of (drop (if b then m + 1 else m) cs) ≡ after x (row_of cs)) → (n : ℕ) → n ≡ 1 + place x (row_of cs) → n < length (d ∷ cs) → c ≡ get_or (d ∷ cs) n c → b ≡ is_eq (step_cmp x c.value.step) → row_of (drop (if b then n + 1 else n) (d ∷ cs)) ≡ after x (row_of cs)
    later hyp zero is l at tie = absurd (omega arith)
    later hyp (suc n) is l at tie = elim b as (λ t. row_of (drop (if t then n + 1 else n) cs) ≡ after x (row_of cs) → row_of (drop (if t then suc n + 1 else suc n) (d ∷ cs)) ≡ after x (row_of cs)) [
      | true ↦ λ rest. ap (λ m. row_of (drop m (d ∷ cs))) (let q : suc n + 1 ≡ suc (n + 1) = omega arith in q) ∙ rest
      | false ↦ λ rest. rest
    ] (hyp n (omega arith) (omega arith) at tie)

pub after-end : (x : Step) (cs : List (Arc Child Global)) (n : ℕ) → n ≡ place x (row_of cs) → length cs ≤ n → row_of (drop n cs) ≡ after x (row_of cs)
after-end x cs n is l = ap row_of (past_end cs n l) ∙ sym (none_left x cs (omega arith))
  where
    none_left : (x : Step) (cs : List (Arc Child Global)) → length cs ≤ place x (row_of cs) → after x (row_of cs) ≡ []
    none_left x [] = λ l. refl
    none_left x (d ∷ cs) = elim (step_cmp x d.value.step) as (λ r. length (d ∷ cs) ≤ by_order r 0 0 (1 + place x (row_of cs)) → by_order r ((d.value.step, d.value.node.value) ∷ row_of cs) (row_of cs) (after x (row_of cs)) ≡ []) [
      | Less ↦ λ l. absurd (omega arith)
      | Equal ↦ λ l. absurd (omega arith)
      | Greater ↦ λ l. none_left x cs (omega arith)
    ]

pub place-le : (x : Step) (cs : List (Arc Child Global)) → place x (row_of cs) ≤ length cs
place-le x [] = omega arith
place-le x (d ∷ cs) = let h = place-le x cs in elim (step_cmp x d.value.step) as (λ r. by_order r 0 0 (1 + place x (row_of cs)) ≤ length (d ∷ cs)) [ Less ↦ omega arith | Equal ↦ omega arith | Greater ↦ omega (arith, h) ]

pub find-at : (x : Step) (cs : List (Arc Child Global)) (n : ℕ) (c : Arc Child Global) (b : Bool) → T (is_sorted step_cmp (row_of cs)) → n ≡ place x (row_of cs) → n < length cs → c ≡ get_or cs n c → b ≡ is_eq (step_cmp x c.value.step) → (if b then Some c.value.node.value else None) ≡ find step_cmp x (row_of cs)
find-at x [] n c b h = λ is l at tie. absurd (omega arith)
find-at x (d ∷ cs) n c b h =
    elim (step_cmp x d.value.step) as (λ r. step_cmp x d.value.step ≡ r → n ≡ by_order r 0 0 (1 + place x (row_of cs)) → n < length (d ∷ cs) → c ≡ get_or (d ∷ cs) n c → b ≡ is_eq (step_cmp x c.value.step) → (if b then Some c.value.node.value else None) ≡ cond (is_eq r) (Some d.value.node.value) (find step_cmp x (row_of cs))) [
      | Less ↦ λ r is l at tie.
          let here : c ≡ d = at ∙ ap (λ m. get_or (d ∷ cs) m c) is in
          let no : b ≡ false = tie ∙ ap (λ (e : Arc Child Global). is_eq (step_cmp x e.value.step)) here ∙ ap is_eq r in
          ap (λ t. if t then Some c.value.node.value else None) no ∙ sym (find_above x (row_of cs) (below_less x d.value.step (row_of cs) r (first _ (is_sorted step_cmp (row_of cs)) h)))
      | Equal ↦ λ r is l at tie.
          let here : c ≡ d = at ∙ ap (λ m. get_or (d ∷ cs) m c) is in
          let yes : b ≡ true = tie ∙ ap (λ (e : Arc Child Global). is_eq (step_cmp x e.value.step)) here ∙ ap is_eq r in
          ap (λ t. if t then Some c.value.node.value else None) yes ∙ ap (λ (e : Arc Child Global). Some e.value.node.value) here
      | Greater ↦ λ r is l at tie. later (λ m. find-at x cs m c b (second (below_all step_cmp d.value.step (row_of cs)) _ h)) n is l at tie
    ] refl
  where
    later : ((m : ℕ) → m ≡ place x (row_of cs) → m < length cs → c ≡ get_or cs m c → b ≡ is_eq (step_cmp x c.value.step) → (if b then Some c.value.node.value else None) ≡ find step_cmp x (row_of cs)) → (n : ℕ) → n ≡ 1 + place x (row_of cs) → n < length (d ∷ cs) → c ≡ get_or (d ∷ cs) n c → b ≡ is_eq (step_cmp x c.value.step) → (if b then Some c.value.node.value else None) ≡ find step_cmp x (row_of cs)
    later hyp zero is l at tie = absurd (omega arith)
    later hyp (suc n) is l at tie = hyp n (omega arith) (omega arith) at tie

pub find-end : (x : Step) (cs : List (Arc Child Global)) (n : ℕ) → n ≡ place x (row_of cs) → length cs ≤ n → None ≡ find step_cmp x (row_of cs)
find-end x [] n = λ is l. refl
find-end x (d ∷ cs) n = elim (step_cmp x d.value.step) as (λ r. n ≡ by_order r 0 0 (1 + place x (row_of cs)) → length (d ∷ cs) ≤ n → None ≡ cond (is_eq r) (Some d.value.node.value) (find step_cmp x (row_of cs))) [
  | Less ↦ λ is l. absurd (omega arith)
  | Equal ↦ λ is l. absurd (omega arith)
  | Greater ↦ λ is l. find-end x cs (place x (row_of cs)) refl (omega arith)
]

pub row_of-take : (cs : List (Arc Child Global)) (n : ℕ) → row_of (take n cs) ≡ take n (row_of cs)
row_of-take cs zero = refl
row_of-take [] (suc n) = refl
row_of-take (c ∷ cs) (suc n) = ap (λ (r : List (Step × Tree)). (c.value.step, c.value.node.value) ∷ r) (row_of-take cs n)

-- the children copied in three parts
pub changed-parts : (x : Step) (o : Option Tree) (cs : List (Arc Child Global)) (at next : ℕ) (start front more last : List (Arc Child Global)) → at ≡ place x (row_of cs) → row_of (drop next cs) ≡ after x (row_of cs) → start ≡ [] →
    row_of front ≡ row_of start ++ row_of (take at cs) → row_of more ≡ row_of front ++ one_of x o → row_of last ≡ row_of more ++ row_of (drop next cs) → row_of last ≡ change x o (row_of cs)
changed-parts x o cs at next start front more last place_is after_is none a b c =
    c ∙ (λ i. b i ++ after_is i) ∙ (λ i. (a i ++ one_of x o) ++ after x (row_of cs)) ∙ (λ i. ((row_of (none i) ++ row_of (take at cs)) ++ one_of x o) ++ after x (row_of cs))
    ∙ append_assoc (row_of (take at cs)) (one_of x o) (after x (row_of cs))
    ∙ (λ i. row_of-take cs (place_is i) i ++ (one_of x o ++ after x (row_of cs)))
    ∙ sym (change-parts x o (row_of cs))

pub gt_of : (b r : Bool) (x : Step) (c : Arc Child Global) (d : Child) (o : Ordering) → d ≡ c.value → o ≡ step_cmp x d.step → r ≡ is_gt o → r ≡ b → is_gt (step_cmp x c.value.step) ≡ b
gt_of b r x c d o at cmp gt is = sym (ap is_gt cmp ∙ ap (λ (e : Child). is_gt (step_cmp x e.step)) at) ∙ sym gt ∙ is

-- what code tests at a child
pub tie_of : (b r : Bool) (x : Step) (c : Arc Child Global) (d : Child) (o : Ordering) → d ≡ c.value → o ≡ step_cmp x d.step → r ≡ is_eq o → r ≡ b → b ≡ is_eq (step_cmp x c.value.step)
tie_of b r x c d o at cmp eq is = sym is ∙ eq ∙ ap is_eq cmp ∙ ap (λ (e : Child). is_eq (step_cmp x e.step)) at
