-- Lists with one more element at their end.
use Rattle.std.proofs.Common.{◌≡◌, ◌⊎◌, ℕ, zero, suc, ◌+◌, ◌-◌, ◌<◌, List, [], ◌∷◌, ◌++◌, length, get_or, Bool, Some, None, is_some, if◌then◌else◌, refl, ◌∙◌, sym, ap, subst, inl, inr, arith}
use Rattle.std.specs.List.{position_from, slice_get}
use Rattle.std.proofs.lemmas.Bool.{cases_lt, cases_Bool}
use Rattle.std.proofs.lemmas.List.{get_or_append_left, get_or-append_right}
use Rattle.std.proofs.lemmas.Option.{same_Some}

-- an element of a list with one more element at its end
pub last_or_before : {X : Type 0} (xs : List X) (y z : X) (i : ℕ) → slice_get (xs ++ y ∷ []) i ≡ Some z → (slice_get xs i ≡ Some z) ⊎ ((i ≡ length xs) × (y ≡ z))
last_or_before [] y z zero e = inr (refl, same_Some y z e)
last_or_before [] y z (suc i) e = cc
last_or_before (x ∷ xs) y z zero e = inl e
last_or_before (x ∷ xs) y z (suc i) e =
    elim (last_or_before xs y z i e) [
      | inl old ↦ inl old
      | inr w ↦ inr (ap suc w.0, w.1)
    ]

-- what holds of each element and its place
pub table-holds : {X : Type 0} (P : ℕ → X → Type 0) (xs : List X) (i : ℕ) (x : X) → length xs ≡ i → P i x → ((m : ℕ) (d : X) → m < i → P m (get_or xs m d))
    → (m : ℕ) (d : X) → m < i + 1 → P m (get_or (xs ++ x ∷ []) m d)
table-holds {X} P xs i x count is so_far m d h = elim (cases_lt m (length xs)) [
  | inl before ↦ subst (P m) (sym (get_or_append_left xs (x ∷ []) d m before)) (so_far m d (omega arith))
  | inr after ↦
      let last : i ≡ m = omega arith in
      let place : m - length xs ≡ 0 = omega arith in
      let got : get_or (xs ++ x ∷ []) m d ≡ x = get_or-append_right xs (x ∷ []) (length xs) m d refl after ∙ rw place refl in
      let Q : ℕ → Type 0 = λ n. P n x in
      subst (P m) (sym got) (subst Q last is)
]

pub table-last : {X : Type 0} (f : ℕ → X) (xs : List X) (i : ℕ) (x : X) → length xs ≡ i → x ≡ f i → ((m : ℕ) (d : X) → m < i → get_or xs m d ≡ f m)
    → (m : ℕ) (d : X) → m < i + 1 → get_or (xs ++ x ∷ []) m d ≡ f m
table-last {X} f xs i x count is so_far = table-holds (λ m (y : X). y ≡ f m) xs i x count is so_far

-- the first place of one like this
pub position_from-last : {X : Type 0} (p : X → Bool) (n : ℕ) (xs : List X) (x : X)
    → position_from p n (xs ++ x ∷ []) ≡ (if is_some (position_from p n xs) then position_from p n xs else if p x then Some (n + length xs) else None)
position_from-last p n [] x = let here : n + 0 ≡ n = omega arith in rw here refl
position_from-last p n (y ∷ ys) x =
    let there : n + 1 + length ys ≡ n + length (y ∷ ys) = omega arith in
    elim (cases_Bool (p y)) [ inl e ↦ rw e refl | inr e ↦ rw e (position_from-last p (n + 1) ys x ∙ rw there refl) ]
