-- Reaching by names, one round after another.
use Rattle.std.proofs.Common.{◌≡◌, ℕ, zero, suc, ◌+◌, ◌-◌, ◌≤◌, ◌==◌, Bool, true, false, ◌||◌, List, [], ◌∷◌, map, get_or, refl, sym, ap, ◌∙◌, arith}
use Rattle.std.proofs.lemmas.Bool.{and_parts}
use Rattle.std.specs.Prelude.{Vec}
use lib.Pointwise.{pointwise}
use mathlib.Core.Bool.{beq}
use Rattle.std.specs.List.{list_any}
use Rattle.std.specs.declared.alloc.Global.{Global}
use Rattle.sal_module.specs.Imports.{reaches, plain, is_step}

pub reaches-none : (edges : List (List ℕ)) (n target : ℕ) → reaches edges n target [] ≡ false
unfolding reaches
reaches-none edges zero target = refl
reaches-none edges (suc n) target = refl

get_or-map_all : {X : Type 0} (f : X → Bool) (xs : List X) (d : X) (k : ℕ) → f d ≡ false → get_or (map f xs) k false ≡ f (get_or xs k d)
get_or-map_all f [] d k h = sym h
get_or-map_all f (x ∷ xs) d zero h = refl
get_or-map_all f (x ∷ xs) d (suc k) h = get_or-map_all f xs d k h

any-same : (p q : ℕ → Bool) (xs : List ℕ) → ((k : ℕ) → p k ≡ q k) → list_any p xs ≡ list_any q xs
any-same p q [] h = refl
any-same p q (x ∷ xs) h = rw (h x, any-same p q xs h) refl

pub reaches-suc : (edges : List (List ℕ)) (n target : ℕ) (out : List ℕ) → reaches edges (suc n) target out ≡ list_any (λ k. k == target || reaches edges n target (get_or edges k [])) out
unfolding reaches
reaches-suc edges n target out = refl

pub reaches-zero : (edges : List (List ℕ)) (target : ℕ) (out : List ℕ) → reaches edges 0 target out ≡ list_any (λ k. k == target) out
unfolding reaches
reaches-zero edges target out = refl

-- one round at one module
round_at : (edges : List (List ℕ)) (n target : ℕ) (out : List ℕ) → list_any (λ k. is_step (map (reaches edges n target) edges) target k) out ≡ reaches edges (suc n) target out
round_at edges n target out =
    any-same (λ k. is_step (map (reaches edges n target) edges) target k) (λ k. k == target || reaches edges n target (get_or edges k [])) out
    (λ k. ap (λ b. k == target || b) (get_or-map_all (reaches edges n target) edges [] k (reaches-none edges n target)))
    ∙ sym (reaches-suc edges n target out)

or-false : (b : Bool) → (b || false) ≡ b
or-false b = elim b as (λ c. (c || false) ≡ c) [ Bool.true ↦ refl | false ↦ refl ]

pub first_round : (edges : List (Vec ℕ Global)) (all : List (List ℕ)) (target : ℕ) → map (λ out. list_any (λ k. is_step [] target k) out.items) edges ≡ map (reaches all 0 target) (plain edges)
first_round [] all target = refl
first_round (out ∷ edges) all target =
    let here = any-same (λ k. is_step [] target k) (λ k. k == target) out.items (λ k. or-false (k == target)) ∙ sym (reaches-zero all target out.items) in
    rw (here, first_round edges all target) refl

next_round-suc : (edges : List (Vec ℕ Global)) (all : List (List ℕ)) (n target : ℕ) → map (λ out. list_any (λ k. is_step (map (reaches all n target) all) target k) out.items) edges ≡ map (reaches all (suc n) target) (plain edges)
next_round-suc [] all n target = refl
next_round-suc (out ∷ edges) all n target =
    ap (λ b. b ∷ map (λ (o : Vec ℕ Global). list_any (λ k. is_step (map (reaches all n target) all) target k) o.items) edges) (round_at all n target out.items)
    ∙ ap (λ r. reaches all (suc n) target out.items ∷ r) (next_round-suc edges all n target)

pub next_round : (edges : List (Vec ℕ Global)) (all : List (List ℕ)) (n target : ℕ) → map (λ out. list_any (λ k. is_step (map (reaches all n target) all) target k) out.items) edges ≡ map (reaches all (n + 1) target) (plain edges)
next_round edges all n target = let more : n + 1 ≡ suc n = omega arith in rw more (next_round-suc edges all n target)

pub marked-at : (edges : List (List ℕ)) (n target k : ℕ) → get_or (map (reaches edges n target) edges) k false ≡ reaches edges n target (get_or edges k [])
marked-at edges n target k = get_or-map_all (reaches edges n target) edges [] k (reaches-none edges n target)

-- ---- a round that marks no more

abbrev pub marks : List (List ℕ) → ℕ → ℕ → List Bool
marks all n target = map (reaches all n target) all

module _ (edges : List (Vec ℕ Global)) (n target : ℕ) (same : marks (plain edges) n target ≡ marks (plain edges) (n + 1) target) where
  pub stable : (j : ℕ) → marks (plain edges) n target ≡ marks (plain edges) (n + j) target
  stable zero = let none : n ≡ n + 0 = omega arith in ap (λ m. marks (plain edges) m target) none
  stable (suc j) =
      let more : n + j + 1 ≡ n + suc j = omega arith in
      same ∙ sym (next_round edges (plain edges) n target) ∙ ap (λ (m : List Bool). map (λ (out : Vec ℕ Global). list_any (λ k. is_step m target k) out.items) edges) (stable j)
      ∙ next_round edges (plain edges) (n + j) target ∙ ap (λ m. marks (plain edges) m target) more

pub stable-until : (edges : List (Vec ℕ Global)) (n target last : ℕ) → marks (plain edges) n target ≡ marks (plain edges) (n + 1) target → n ≤ last
    → marks (plain edges) n target ≡ marks (plain edges) last target
stable-until edges n target last same h = let there : n + (last - n) ≡ last = omega arith in stable edges n target same (last - n) ∙ ap (λ m. marks (plain edges) m target) there

-- ---- marks that are the same

beq-same : (x y : Bool) → beq x y ≡ true → x ≡ y
beq-same true true h = refl
beq-same false false h = refl
beq-same true false h = absurd (let no : false ≡ true = h in cc)
beq-same false true h = absurd (let no : false ≡ true = h in cc)

pub marks-same : (a b : List Bool) → pointwise beq a b ≡ true → a ≡ b
marks-same [] [] h = refl
marks-same [] (y ∷ b) h = absurd (let no : false ≡ true = h in cc)
marks-same (x ∷ a) [] h = absurd (let no : false ≡ true = h in cc)
marks-same (x ∷ a) (y ∷ b) h =
    let (one, more) = and_parts (beq x y) (pointwise beq a b) h in
    let first = beq-same x y one in
    let rest = marks-same a b more in
    λ i. first i ∷ rest i
