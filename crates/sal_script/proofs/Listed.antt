-- Lists looked at by index.
use Rattle.std.proofs.Common.{◌≡◌, ℕ, zero, suc, ◌<◌, List, [], ◌∷◌, ◌++◌, length, set, take, Some, refl, ap, arith, inl, inr, ◌⊎◌}
use Rattle.std.specs.Prelude.{slice_get}
use Rattle.std.proofs.lemmas.Option.{same_Some}

-- there is an item at an index
pub get_some : {X : Type 0} (xs : List X) (i : ℕ) → i < length xs → (x : X) × (slice_get xs i ≡ Some x)
get_some [] i h = absurd (omega arith)
get_some (y ∷ xs) zero h = (y, refl)
get_some (y ∷ xs) (suc i) h = get_some xs i (omega arith)

-- the items of a list in which one element was replaced
pub get-set : {X : Type 0} (xs : List X) (i : ℕ) (y : X) (n : ℕ) (z : X) → slice_get (set xs i y) n ≡ Some z → ((n ≡ i) × (y ≡ z)) ⊎ ((n ≡ i → ⊥) × (slice_get xs n ≡ Some z))
get-set [] i y n z e = cc
get-set (x ∷ xs) zero y zero z e = inl (refl, same_Some y z e)
get-set (x ∷ xs) zero y (suc n) z e = inr (λ h. absurd (omega (arith, h)), e)
get-set (x ∷ xs) (suc i) y zero z e = inr (λ h. absurd (omega (arith, h)), e)
get-set (x ∷ xs) (suc i) y (suc n) z e =
    elim (get-set xs i y n z e) [
      | inl w ↦ inl (ap suc w.0, w.1)
      | inr w ↦ inr (λ h. w.0 (omega (arith, h)), w.1)
    ]

-- and with one more at its end
pub get-push : {X : Type 0} (xs : List X) (y : X) (i : ℕ) (z : X) → slice_get (xs ++ y ∷ []) i ≡ Some z → (slice_get xs i ≡ Some z) ⊎ ((i ≡ length xs) × (y ≡ z))
get-push [] y zero z e = inr (refl, same_Some y z e)
get-push [] y (suc i) z e = cc
get-push (x ∷ xs) y zero z e = inl e
get-push (x ∷ xs) y (suc i) z e =
    elim (get-push xs y i z e) [
      | inl old ↦ inl old
      | inr w ↦ inr (ap suc w.0, w.1)
    ]

-- the front that ends in a list
pub take_left : {X : Type 0} (xs ys : List X) (i : ℕ) → i < length xs → take i (xs ++ ys) ≡ take i xs
take_left [] ys i h = absurd (omega arith)
take_left (x ∷ xs) ys zero h = refl
take_left (x ∷ xs) ys (suc i) h = ap (λ zs. x ∷ zs) (take_left xs ys i (omega arith))

-- the items in the front of a longer list
pub get_left : {X : Type 0} (xs ys : List X) (i : ℕ) → i < length xs → slice_get (xs ++ ys) i ≡ slice_get xs i
get_left [] ys i h = absurd (omega arith)
get_left (x ∷ xs) ys zero h = refl
get_left (x ∷ xs) ys (suc i) h = get_left xs ys i (omega arith)
