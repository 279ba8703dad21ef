-- The texts of a path, from one to the next.
use Rattle.std.proofs.Common.{◌≡◌, ℕ, ◌+◌, ◌<◌, ◌==◌, List, [], ◌∷◌, ◌++◌, length, take, drop, suc, Option, Some, None, Bor, option_map, false, refl, ap, sym, ◌∙◌, inl, inr, append_assoc, arith}
use Rattle.std.proofs.lemmas.Bool.{cases_Bool}
use Rattle.std.specs.List.{prefix_len, position_or_len, before_first, after_first}
use Rattle.std.proofs.lemmas.Str.Pattern.{IsSplitOnceResult, split_once_first}
use Rattle.sal_typedefs.specs.Names.{outside, inside, is_up}
pub use Rattle.sal_module.proofs.Paths.{names as steps, names-whole as steps-whole, names-parts as steps-parts}

-- ---- predicates

pub behind-nothing : (o : Option (List ℕ)) → option_map (λ more. [] ++ more) o ≡ o
behind-nothing None = refl
behind-nothing (Some more) = refl

behind-one : (c : ℕ) (front : List ℕ) (o : Option (List ℕ)) → option_map (λ more. c ∷ more) (option_map (λ more. front ++ more) o) ≡ option_map (λ more. (c ∷ front) ++ more) o
behind-one c front None = refl
behind-one c front (Some more) = refl

take-next : (n c : ℕ) (t : List ℕ) → take (1 + n) (c ∷ t) ≡ c ∷ take n t
take-next n c t = let next : 1 + n ≡ suc n = omega arith in rw next refl

drop-next : (n c : ℕ) (t : List ℕ) → drop (1 + n + 1) (c ∷ t) ≡ drop (n + 1) t
drop-next n c t = let next : 1 + n + 1 ≡ suc (n + 1) = omega arith in rw next refl

outside-none : (t : List ℕ) → position_or_len (λ c. c == 91) t ≡ length t → outside t ≡ Some t
outside-none [] h = refl
outside-none (c ∷ t) h = elim (cases_Bool (c == 91)) [
  | inl e ↦ let h' = rw e at h in absurd (omega arith)
  | inr e ↦ let h' = rw e at h in rw e (ap (option_map (λ rest. c ∷ rest)) (outside-none t (omega arith)))
]

outside-some : (t : List ℕ) → position_or_len (λ c. c == 91) t < length t
    → outside t ≡ option_map (λ more. before_first (λ c. c == 91) t ++ more) (inside (after_first (λ c. c == 91) t))
outside-some [] h = absurd (omega arith)
outside-some (c ∷ t) h = elim (cases_Bool (c == 91)) [
  | inl e ↦ rw e (sym (behind-nothing (inside t)))
  | inr e ↦ let h' = rw e at h in
      let n = position_or_len (λ c. c == 91) t in
      rw e (ap (option_map (λ rest. c ∷ rest)) (outside-some t (omega arith)) ∙ behind-one c (take n t) (inside (drop (n + 1) t))
      ∙ (let front = sym (take-next n c t) in let back = sym (drop-next n c t) in λ i. option_map (λ more. front i ++ more) (inside (back i))))
]

inside-none : (t : List ℕ) → position_or_len (λ c. c == 93) t ≡ length t → inside t ≡ None
inside-none [] h = refl
inside-none (c ∷ t) h = elim (cases_Bool (c == 93)) [
  | inl e ↦ let h' = rw e at h in absurd (omega arith)
  | inr e ↦ let h' = rw e at h in rw e (inside-none t (omega arith))
]

inside-some : (t : List ℕ) → position_or_len (λ c. c == 93) t < length t → inside t ≡ option_map (λ more. 93 ∷ more) (outside (after_first (λ c. c == 93) t))
inside-some [] h = absurd (omega arith)
inside-some (c ∷ t) h = elim (cases_Bool (c == 93)) [
  | inl e ↦ rw e refl
  | inr e ↦ let h' = rw e at h in
      let n = position_or_len (λ c. c == 93) t in
      rw e (inside-some t (omega arith) ∙ ap (λ rest. option_map (λ more. 93 ∷ more) (outside rest)) (sym (drop-next n c t)))
]

-- a text before what is left of a path
abbrev pub behind : List ℕ → Option (List ℕ) → Option (List ℕ)
behind front more = option_map (λ more. front ++ more) more

pub behind-two : (a b : List ℕ) (more : Option (List ℕ)) → behind a (behind b more) ≡ behind (a ++ b) more
behind-two a b None = refl
behind-two a b (Some more) = ap Some (sym (append_assoc a b more))

module _ (text : List ℕ) (r : Option (Bor (List ℕ) × Bor (List ℕ))) where
  pub predicates-none : IsSplitOnceResult 91 text r → r ≡ None → outside text ≡ Some text
  predicates-none split is = let none = rw is at (split_once_first 91 text r split (omega arith)) in outside-none text none

  pub predicates-some : IsSplitOnceResult 91 text r → (x : Bor (List ℕ) × Bor (List ℕ)) → r ≡ Some x → outside text ≡ behind x.0.now (inside x.1.now)
  predicates-some split x is =
      let (less, front, back) = rw is at (split_once_first 91 text r split (omega arith)) in
      outside-some text less ∙ rw (front, back) refl

  pub predicate-none : IsSplitOnceResult 93 text r → r ≡ None → inside text ≡ None
  predicate-none split is = let none = rw is at (split_once_first 93 text r split (omega arith)) in inside-none text none

  pub predicate-some : IsSplitOnceResult 93 text r → (x : Bor (List ℕ) × Bor (List ℕ)) → r ≡ Some x → inside text ≡ option_map (λ more. 93 ∷ more) (outside x.1.now)
  predicate-some split x is =
      let (less, front, back) = rw is at (split_once_first 93 text r split (omega arith)) in
      inside-some text less ∙ rw back refl

-- ---- steps

-- none of them leads up, where the first one does not
pub stops : (step : List ℕ) (more : List (List ℕ)) → is_up step ≡ false → prefix_len is_up (step ∷ more) ≡ 0
stops step more e = rw e refl
