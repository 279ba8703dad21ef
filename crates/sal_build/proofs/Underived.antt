-- Identities are derived from existing identities, and none from itself.
use Rattle.std.proofs.Common.{◌≡◌, ℕ, zero, suc, Bool, true, false, not, ◌==◌, IsTrue, List, [], ◌∷◌, ◌++◌, fold, get_or, refl, inl, inr}
use Rattle.std.specs.Prelude.{◌||◌}
use Rattle.std.specs.List.{list_all, list_any, flat_map}
use Rattle.std.proofs.lemmas.Bool.{cases_Bool}
use Rattle.sal_module.specs.Imports.{reaches}
use Rattle.sal_schema.specs.Table.{is_among}
use Rattle.sal_schema.proofs.Conjuncts.{and_first, and_second, or_first, or_second}
use Rattle.sal_module_table.specs.Identities.{with_number, once, joined, derived}
use Rattle.sal_build.proofs.Quiet.{both, all-joined}

module _ (test : ℕ → Bool) where
  fold-all : (out numbers : List ℕ) → IsTrue (list_all test out) → IsTrue (list_all test numbers) → IsTrue (list_all test (fold with_number out numbers))
  fold-all out [] h k = h
  fold-all out (n ∷ numbers) h k =
      let here = and_first (test n) (list_all test numbers) k in
      let rest = and_second (test n) (list_all test numbers) k in
      elim (cases_Bool (list_any (λ j. j == n) out)) [
        | inl t ↦ rw t (fold-all out numbers h rest)
        | inr f ↦ rw f (fold-all (out ++ n ∷ []) numbers (all-joined test out (n ∷ []) h (both (test n) true here refl)) rest)
      ]

  pub once-all : (numbers : List ℕ) → IsTrue (list_all test numbers) → IsTrue (list_all test (once numbers))
  once-all numbers h = fold-all [] numbers refl h

  flat-rows : (good : ℕ → Bool) (above : ℕ → List ℕ) → ((b : ℕ) → IsTrue (good b) → IsTrue (test b) × IsTrue (list_all test (above b))) → (bases : List ℕ) → IsTrue (list_all good bases)
      → IsTrue (list_all test (flat_map (λ b. b ∷ above b) bases))
  flat-rows good above each [] h = refl
  flat-rows good above each (b ∷ bases) h =
      let (here, more) = each b (and_first (good b) (list_all good bases) h) in
      all-joined test (b ∷ above b) (flat_map (λ b. b ∷ above b) bases) (both (test b) (list_all test (above b)) here more)
      (flat-rows good above each bases (and_second (good b) (list_all good bases) h))

  -- what comes of bases that pass, where they come from such too
  pub joined-all : (good : ℕ → Bool) (above : ℕ → List ℕ) → ((b : ℕ) → IsTrue (good b) → IsTrue (test b) × IsTrue (list_all test (above b))) → (bases : List ℕ) → IsTrue (list_all good bases)
      → IsTrue (list_all test (joined above bases))
  joined-all good above each bases h = once-all (flat_map (λ b. b ∷ above b) bases) (flat-rows good above each bases h)

-- ---- identities that are there

module _ (edges : List (List ℕ)) (inside : ℕ → Bool) (rows-inside : (i : ℕ) → IsTrue (list_all inside (get_or edges i []))) where
  pub derived-inside : (n i : ℕ) → IsTrue (list_all inside (derived n edges i))
  unfolding derived
  derived-inside zero i = refl
  derived-inside (suc n) i = joined-all inside inside (derived n edges) (λ b h. (h, derived-inside n b)) (get_or edges i []) (rows-inside i)

-- ---- none from itself

module _ (edges : List (List ℕ)) (i : ℕ) where
  -- another one
  abbrev pub is_other : ℕ → Bool
  is_other j = not (j == i)

  -- and one from which no chain of this many steps leads back
  abbrev pub is_free : ℕ → ℕ → Bool
  is_free n b = not (b == i || reaches edges n i (get_or edges b []))

  not-both : (a b : Bool) → not (a || b) ≡ true → (not a ≡ true) × (b ≡ false)
  not-both true b e = cc
  not-both false true e = cc
  not-both false false e = (refl, refl)

  free-row : (p : ℕ → Bool) (bs : List ℕ) → list_any p bs ≡ false → IsTrue (list_all (λ b. not (p b)) bs)
  free-row p [] e = refl
  free-row p (b ∷ bs) e = let here = or_first (p b) (list_any p bs) e in both (not (p b)) (list_all (λ b. not (p b)) bs) (rw here refl) (free-row p bs (or_second (p b) (list_any p bs) e))

  others : (n b : ℕ) → reaches edges n i (get_or edges b []) ≡ false → IsTrue (list_all is_other (derived n edges b))
  unfolding derived reaches
  others zero b e = refl
  others (suc n) b e =
      joined-all is_other (is_free n) (derived n edges) (λ c free. let (other, none) = not-both (c == i) (reaches edges n i (get_or edges c [])) free in (other, others n c none)) (get_or edges b [])
      (free-row (λ k. k == i || reaches edges n i (get_or edges k [])) (get_or edges b []) e)

  -- fewer steps reach no more
  fewer-any : (p q : ℕ → Bool) → ((k : ℕ) → p k ≡ false → q k ≡ false) → (out : List ℕ) → list_any p out ≡ false → list_any q out ≡ false
  fewer-any p q each [] e = refl
  fewer-any p q each (k ∷ out) e = rw (each k (or_first (p k) (list_any p out) e)) (fewer-any p q each out (or_second (p k) (list_any p out) e))

  neither : (a b c : Bool) → (b ≡ false → c ≡ false) → (a || b) ≡ false → (a || c) ≡ false
  neither true b c f e = cc
  neither false b c f e = f e

  fewer : (n : ℕ) (out : List ℕ) → reaches edges (suc n) i out ≡ false → reaches edges n i out ≡ false
  unfolding reaches
  fewer zero out e = fewer-any (λ k. k == i || reaches edges zero i (get_or edges k [])) (λ k. k == i) (λ k h. or_first (k == i) (reaches edges zero i (get_or edges k [])) h) out e
  fewer (suc n) out e =
      fewer-any (λ k. k == i || reaches edges (suc n) i (get_or edges k [])) (λ k. k == i || reaches edges n i (get_or edges k []))
      (λ k h. neither (k == i) (reaches edges (suc n) i (get_or edges k [])) (reaches edges n i (get_or edges k [])) (fewer n (get_or edges k [])) h) out e

  pub not-itself : (n : ℕ) → IsTrue (list_all (is_free (suc n)) (get_or edges i [])) → IsTrue (list_all is_other (derived (suc n) edges i))
  unfolding derived
  not-itself n free =
      joined-all is_other (is_free (suc n)) (derived n edges) (λ c h. let (other, none) = not-both (c == i) (reaches edges (suc n) i (get_or edges c [])) h in (other, others n c (fewer n (get_or edges c []) none))) (get_or edges i []) free

  pub none-among : (ns : List ℕ) → IsTrue (list_all is_other ns) → IsTrue (not (is_among i ns))
  none-among [] h = refl
  none-among (n ∷ ns) h = let other = and_first (is_other n) (list_all is_other ns) h in elim (cases_Bool (n == i)) [
    | inl t ↦ let no = rw t at other in cc
    | inr f ↦ rw f (none-among ns (and_second (is_other n) (list_all is_other ns) h))
  ]
