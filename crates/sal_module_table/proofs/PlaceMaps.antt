-- Places and the first numbers with them; the kept places of required statements.
use Rattle.std.proofs.Common.{◌≡◌, ℕ, zero, suc, ◌+◌, ◌<◌, List, [], ◌∷◌, length, get_or, Bool, true, Some, is_some, refl, ◌∙◌, sym, ap, inl, inr, arith, if◌then◌else◌}
use Rattle.std.specs.List.{position_from}
use Rattle.std.specs.BTreeMap.{UpdatesBy, get}
use Rattle.std.specs.Cmp.{IsEquivalence, eq_by_cmp_equiv}
use Rattle.std.proofs.lemmas.Bool.{cases_Bool}
use Rattle.sal_module_table.specs.declared.typed.Place.{Place}
use Rattle.sal_module_table.specs.contracts.typed.PlaceOrd.TheImpl.Laws as place_ord_laws
use Rattle.sal_module_table.specs.Typed.{place_cmp, same_place, Places, first_of}

pub same_place-IsEquivalence : IsEquivalence same_place
same_place-IsEquivalence = eq_by_cmp_equiv place_ord_laws.total-law

-- a place that gets a number
pub put-over : (old new : Places) (k : ℕ) (p : Place) → UpdatesBy place_cmp (place_cmp p) old new (Some k)
    → (q : Place) → get place_cmp new q ≡ (if same_place q p then Some k else get place_cmp old q)
put-over old new k p updates q = updates.0 q ∙ ap (λ b. if b then Some k else get place_cmp old q) (same_place-IsEquivalence.symm p q)

congr-first : (a b : Place) → same_place a b ≡ true → (n : ℕ) (places : List Place) → position_from (same_place a) n places ≡ position_from (same_place b) n places
congr-first a b e n [] = refl
congr-first a b e n (x ∷ places) = rw (same_place-IsEquivalence.congr a b x e, congr-first a b e (n + 1) places) refl

pub alike-known : (places : List Place) (map : Places) → ((q : Place) → get place_cmp map q ≡ first_of places q)
    → (a b : Place) → same_place a b ≡ true → get place_cmp map a ≡ get place_cmp map b
alike-known places map known a b e = known a ∙ congr-first a b e 0 places ∙ sym (known b)

-- ---- a place in a list

pub there : {X : Type 0} (p : X → Bool) (n : ℕ) (xs : List X) (i : ℕ) (d : X) → i < length xs → p (get_or xs i d) ≡ true → is_some (position_from p n xs) ≡ true
there p n [] i d h e = absurd (omega arith)
there p n (x ∷ xs) zero d h e = rw e refl
there p n (x ∷ xs) (suc i) d h e = elim (cases_Bool (p x)) [ inl t ↦ rw t refl | inr f ↦ rw f (there p (n + 1) xs i d (omega arith) e) ]
