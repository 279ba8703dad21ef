-- An element without a path of falling ranks to a target does not reach it.
use Rattle.std.proofs.Common.{◌≡◌, ℕ, zero, suc, ◌==◌, ◌<◌, ◌≤◌, nat_lt, nat_le, Bool, true, false, ◌||◌, length, List, [], ◌∷◌, get_or, Option, Some, None, refl, ap, ◌∙◌, inl, inr, arith}
use Rattle.std.specs.Prelude.{Vec, IfSome}
use Rattle.std.specs.List.{list_any, list_all}
use Rattle.std.specs.declared.alloc.Global.{Global}
use Rattle.std.proofs.lemmas.Bool.{cases_Bool, cases_lt, and_parts}
use Rattle.std.proofs.lemmas.Bool.Decides.{nat_tests}
use Rattle.sal_module.specs.Imports.{reaches}
use Rattle.sal_module.proofs.Rounds.{reaches-zero, reaches-suc}
use Rattle.sal_grouping.specs.Reach.{IsRanked, is_below}

pub get_or_past : {X : Type 0} (xs : List X) (k : ℕ) (d : X) → length xs ≤ k → get_or xs k d ≡ d
get_or_past [] k d h = refl
get_or_past (x ∷ xs) zero d h = absurd (omega arith)
get_or_past (x ∷ xs) (suc k) d h = get_or_past xs k d (omega arith)

-- ---- ranks

weaken : (r : ℕ → ℕ) (a b : ℕ) → a < b → (xs : List ℕ) → list_all (λ k. nat_le (r k) a) xs ≡ true → list_all (λ k. nat_lt (r k) b) xs ≡ true
weaken r a b h [] all = refl
weaken r a b h (x ∷ xs) all =
    let (one, more) = and_parts (nat_le (r x) a) (list_all (λ k. nat_le (r k) a) xs) all in
    let here : nat_lt (r x) b ≡ true = grind (arith, nat_tests) in
    rw here (weaken r a b h xs more)

none-of : (q p : ℕ → Bool) → ((k : ℕ) → q k ≡ true → p k ≡ false) → (xs : List ℕ) → list_all q xs ≡ true → list_any p xs ≡ false
none-of q p each [] all = refl
none-of q p each (x ∷ xs) all =
    let (one, more) = and_parts (q x) (list_all q xs) all in
    rw (each x one) (none-of q p each xs more)

module _ (edges : List (List ℕ)) (ranks : List ℕ) (ranked : IsRanked edges ranks) (target : ℕ) where
  abbrev rank : ℕ → ℕ
  rank k = get_or ranks k 0

  abbrev low : ℕ → Bool
  low k = nat_lt (rank k) (rank target)

  other : (k : ℕ) → low k ≡ true → (k == target) ≡ false
  other k h = elim (cases_Bool (k == target)) [
    | inl e ↦
        let is : k ≡ target = grind (arith, nat_tests) in
        let no : rank k < rank target = grind (arith, nat_tests) in
        let same : rank k ≡ rank target = ap rank is in
        absurd (omega arith)
    | inr e ↦ e
  ]

  out-low : (k : ℕ) → low k ≡ true → list_all low (get_or edges k []) ≡ true
  out-low k h = elim (cases_lt k (length edges)) [
    | inl within ↦ let lt : rank k < rank target = grind (arith, nat_tests) in weaken rank (rank k) (rank target) lt (get_or edges k []) (ranked k within)
    | inr past ↦ rw (get_or_past edges k [] past) refl
  ]

  pub unreached : (n : ℕ) (out : List ℕ) → list_all low out ≡ true → reaches edges n target out ≡ false
  unreached zero out all = reaches-zero edges target out ∙ none-of low (λ k. k == target) other out all
  unreached (suc n) out all =
      reaches-suc edges n target out
      ∙ none-of low (λ k. k == target || reaches edges n target (get_or edges k [])) (λ k h. rw (other k h) (unreached n (get_or edges k []) (out-low k h))) out all

pub unreached-below : (edges : List (List ℕ)) (ranking : Option (Vec ℕ Global)) → IfSome ranking (λ ranks. IsRanked edges ranks.items) → (g used n : ℕ) → is_below ranking used g ≡ true
    → reaches edges n g (get_or edges used []) ≡ false
unreached-below edges None ranked g used n h = absurd (let no : false ≡ true = h in cc)
unreached-below edges (Some ranks) ranked g used n h = unreached edges ranks.items ranked g n (get_or edges used []) (out-low edges ranks.items ranked g used h)
