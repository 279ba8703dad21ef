-- Typedefs by name, from one statement to the next.
use Rattle.std.proofs.Common.{◌≡◌, ℕ, suc, ◌+◌, ◌-◌, ◌<◌, ◌≤◌, List, [], ◌∷◌, length, take, get_or, Bool, false, Option, Some, None, is_some, if◌then◌else◌, refl, ◌∙◌, sym, ap, inl, inr, arith}
use Rattle.std.specs.Prelude.{find, option_and_then}
use Rattle.std.specs.BTreeMap.{UpdatesBy}
use Rattle.std.specs.Cmp.Lexicographic.{slice_cmp}
use Rattle.std.specs.List.{position_from, slice_get}
use Rattle.std.specs.Ordering.{nat_cmp}
use Rattle.std.specs.Str.{bytes_eq}
use Rattle.std.proofs.lemmas.Bool.{cases_Bool}
use Rattle.std.proofs.lemmas.List.{take_more, length-take}
use Rattle.std.proofs.lemmas.Map.Text.{btree_map_updates_str}
use Rattle.std.proofs.lemmas.Slice.Eq.{bytes_eq-Decides}
use Rattle.sal_module.specs.Keywords.{same}
use Rattle.sal_types.proofs.Lists.{position_from-last}
use Rattle.sal_module.proofs.Firsts.{with_first-miss}
use Rattle.sal_typedefs.specs.Blocks.{Numbers, get_by_name, with_first}

pub first-put : (old new : Numbers) (name : List ℕ) (k : ℕ) → UpdatesBy (λ x y. slice_cmp nat_cmp x.now y.now) (λ key. slice_cmp nat_cmp name key.now) old new (Some k)
    → is_some (get_by_name old name) ≡ false → (q : List ℕ) → get_by_name new q ≡ with_first (get_by_name old q) (same name q) k
first-put old new name k updates unknown q =
    let here : get_by_name new q ≡ (if bytes_eq name q then Some k else get_by_name old q) = btree_map_updates_str name old new (Some k) updates q in
    elim (cases_Bool (same name q)) [
      | inl e ↦
          let that : name ≡ q = (bytes_eq-Decides name q).0 e in
          let none : is_some (get_by_name old q) ≡ false = ap (λ n. is_some (get_by_name old n)) (sym that) ∙ unknown in
          here ∙ rw (e, none) refl
      | inr e ↦ here ∙ rw e (sym (with_first-miss (get_by_name old q) k))
    ]

pub position_from-take : {X : Type 0} (p : X → Bool) (xs : List X) (i : ℕ) (d : X) → i < length xs
    → position_from p 0 (take (i + 1) xs) ≡ with_first (position_from p 0 (take i xs)) (p (get_or xs i d)) i
position_from-take p xs i d h =
    let here : 0 + length (take i xs) ≡ i = omega (arith, length-take i xs) in
    ap (position_from p 0) (take_more xs i d h) ∙ position_from-last p 0 (take i xs) (get_or xs i d) ∙ rw here refl

-- ---- the element at a first place

get-past : {X : Type 0} (p : X → Bool) (n : ℕ) (x : X) (xs : List X) (found : Option ℕ) → ((k : ℕ) → found ≡ Some k → n + 1 ≤ k)
    → option_and_then (λ k. slice_get (x ∷ xs) (k - n)) found ≡ option_and_then (λ k. slice_get xs (k - (n + 1))) found
get-past p n x xs None h = refl
get-past p n x xs (Some k) h =
    let more : n + 1 ≤ k = h k refl in
    let less : k - n ≡ suc (k - (n + 1)) = omega arith in
    rw less refl

position-low : {X : Type 0} (p : X → Bool) (n : ℕ) (xs : List X) (k : ℕ) → position_from p n xs ≡ Some k → n ≤ k
position-low p n [] k e = cc
position-low p n (x ∷ xs) k e = elim (cases_Bool (p x)) [
  | inl t ↦ let h = rw t at e in let is : n ≡ k = cc in omega arith
  | inr f ↦ let h = rw f at e in omega (arith, position-low p (n + 1) xs k h)
]

find-from : {X : Type 0} (p : X → Bool) (n : ℕ) (xs : List X) → find p xs ≡ option_and_then (λ k. slice_get xs (k - n)) (position_from p n xs)
find-from p n [] = refl
find-from p n (x ∷ xs) = elim (cases_Bool (p x)) [
  | inl t ↦ let zero : n - n ≡ 0 = omega arith in rw (t, zero) refl
  | inr f ↦ rw f (find-from p (n + 1) xs ∙ sym (get-past p n x xs (position_from p (n + 1) xs) (position-low p (n + 1) xs)))
]

pub find-none : {X : Type 0} (p : X → Bool) (xs : List X) → None ≡ position_from p 0 xs → None ≡ find p xs
find-none p xs e = sym (find-from p 0 xs ∙ rw (← e) refl)

pub find-some : {X : Type 0} (p : X → Bool) (xs : List X) (k : ℕ) → Some k ≡ position_from p 0 xs → slice_get xs k ≡ find p xs
find-some p xs k e = let same : k - 0 ≡ k = omega arith in sym (find-from p 0 xs ∙ rw (← e) (rw same refl))
