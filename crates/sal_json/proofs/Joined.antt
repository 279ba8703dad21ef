-- The names of bits, one after the other.
use Rattle.std.proofs.Common.{◌≡◌, ℕ, zero, suc, ◌+◌, Bool, true, false, ◌||◌, inl, inr, List, [], ◌∷◌, ◌++◌, if◌then◌else◌, refl, ap, sym, ◌∙◌, append_assoc, append-nil, arith}
use Rattle.std.proofs.lemmas.Bool.{cases_Bool}
use Rattle.std.specs.List.{filter, join_by, range_with_len, flat_map}

abbrev pub is_some_list : {X : Type 0} → List X → Bool
is_some_list [] = false
is_some_list (x ∷ xs) = true

module _ {X : Type 0} (f : X → List ℕ) (sep : List ℕ) where
  flat_map-push : (xs : List X) (x : X) → flat_map (λ y. sep ++ f y) (xs ++ x ∷ []) ≡ flat_map (λ y. sep ++ f y) xs ++ (sep ++ f x)
  flat_map-push [] x = append-nil (sep ++ f x)
  flat_map-push (y ∷ xs) x = ap (λ t. (sep ++ f y) ++ t) (flat_map-push xs x) ∙ sym (append_assoc (sep ++ f y) (flat_map (λ y. sep ++ f y) xs) (sep ++ f x))

  pub join_by-push : (xs : List X) (x : X) → join_by f sep (xs ++ x ∷ []) ≡ join_by f sep xs ++ (if is_some_list xs then sep ++ f x else f x)
  join_by-push [] x = append-nil (f x)
  join_by-push (y ∷ xs) x = ap (λ t. f y ++ t) (flat_map-push xs x) ∙ sym (append_assoc (f y) (flat_map (λ y. sep ++ f y) xs) (sep ++ f x))

pub is_some_list-push : {X : Type 0} (xs : List X) (x : X) → is_some_list (xs ++ x ∷ []) ≡ true
is_some_list-push [] x = refl
is_some_list-push (y ∷ xs) x = refl

filter-push_from : (p : ℕ → Bool) (a n : ℕ) → filter p (range_with_len a (suc n)) ≡ filter p (range_with_len a n) ++ (if p (a + n) then (a + n) ∷ [] else [])
filter-push_from p a zero = let same : a + 0 ≡ a = omega arith in rw same (elim (p a) as (λ b. (if b then a ∷ [] else []) ≡ (if b then a ∷ [] else [])) [ true ↦ refl | false ↦ refl ])
filter-push_from p a (suc n) =
    let rest = filter-push_from p (a + 1) n in
    let same : (a + 1) + n ≡ a + suc n = omega arith in
    let rest' = rw same at rest in
    elim (p a) as (λ b. (if b then a ∷ filter p (range_with_len (a + 1) (suc n)) else filter p (range_with_len (a + 1) (suc n)))
    ≡ (if b then a ∷ filter p (range_with_len (a + 1) n) else filter p (range_with_len (a + 1) n)) ++ (if p (a + suc n) then (a + suc n) ∷ [] else [])) [
      | true ↦ ap (λ t. a ∷ t) rest'
      | false ↦ rest'
    ]

-- the numbers below one that pass, one number more
pub filter-push : (p : ℕ → Bool) (n : ℕ) → filter p (range_with_len 0 (n + 1)) ≡ filter p (range_with_len 0 n) ++ (if p n then n ∷ [] else [])
filter-push p n = let more : n + 1 ≡ suc n = omega arith in let none : 0 + n ≡ n = omega arith in rw more (rw none at (filter-push_from p 0 n))

-- one number more
pub joined_next : (f : ℕ → List ℕ) (sep : List ℕ) (p : ℕ → Bool) (n : ℕ) (text next : List ℕ) (some more : Bool)
    → text ≡ join_by f sep (filter p (range_with_len 0 n)) → some ≡ is_some_list (filter p (range_with_len 0 n))
    → next ≡ (if p n then text ++ (if some then sep ++ f n else f n) else text) → more ≡ (p n || some)
    → (next ≡ join_by f sep (filter p (range_with_len 0 (n + 1)))) × (more ≡ is_some_list (filter p (range_with_len 0 (n + 1))))
joined_next f sep p n text next some more was others e m =
    let all = filter p (range_with_len 0 n) in
    elim (cases_Bool (p n)) [
      | inl here ↦
          let grown : filter p (range_with_len 0 (n + 1)) ≡ all ++ n ∷ [] = filter-push p n ∙ ap (λ b. all ++ (if b then n ∷ [] else [])) here in
          let e' = rw here at e in
          let m' = rw here at m in
          (e' ∙ (λ i. was i ++ (if others i then sep ++ f n else f n)) ∙ sym (ap (join_by f sep) grown ∙ join_by-push f sep all n), m' ∙ sym (ap is_some_list grown ∙ is_some_list-push all n))
      | inr here ↦
          let same : filter p (range_with_len 0 (n + 1)) ≡ all = filter-push p n ∙ ap (λ b. all ++ (if b then n ∷ [] else [])) here ∙ append-nil all in
          let e' = rw here at e in
          let m' = rw here at m in
          (e' ∙ was ∙ sym (ap (join_by f sep) same), m' ∙ others ∙ sym (ap is_some_list same))
    ]
