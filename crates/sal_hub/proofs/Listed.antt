-- Lists looked at by index.
use Rattle.std.proofs.Common.{◌≡◌, ℕ, zero, suc, ◌+◌, ◌<◌, ◌≤◌, List, [], ◌∷◌, ◌++◌, drop, length, get_or, set, take, Option, None, Some, refl, ap, sym, ◌∙◌, arith, append_assoc, length-append, inl, inr, ◌⊎◌}
use Rattle.std.specs.Prelude.{option_and_then, slice_get}
use Rattle.std.proofs.lemmas.Option.{same_Some}
use Rattle.std.proofs.Math.Seq.{take-append_seam}
use Rattle.sal_hub.specs.PipelineView.{Grows}
pub use Rattle.sal_types.proofs.Lists.{last_or_before}

-- an element that the code reads at an index
pub slice_get_at : {X : Type 0} (xs : List X) (i : ℕ) (x : X) → i < length xs → x ≡ get_or xs i x → slice_get xs i ≡ Some x
slice_get_at [] i x h e = absurd (omega arith)
slice_get_at (y ∷ xs) zero x h e = ap Some (sym e)
slice_get_at (y ∷ xs) (suc i) x h e = slice_get_at xs i x (omega arith) e

-- there is no item after the end
pub slice_get_none : {X : Type 0} (xs : List X) (i : ℕ) → length xs ≤ i → slice_get xs i ≡ None
slice_get_none [] i h = refl
slice_get_none (y ∷ xs) zero h = absurd (omega arith)
slice_get_none (y ∷ xs) (suc i) h = slice_get_none xs i (omega arith)

-- there is an item at an index
pub slice_get_some : {X : Type 0} (xs : List X) (i : ℕ) → i < length xs → (x : X) × (slice_get xs i ≡ Some x)
slice_get_some [] i h = absurd (omega arith)
slice_get_some (y ∷ xs) zero h = (y, refl)
slice_get_some (y ∷ xs) (suc i) h = slice_get_some xs i (omega arith)

-- the items of a list in which one element was replaced
pub slice_get-set : {X : Type 0} (xs : List X) (i : ℕ) (y : X) (n : ℕ) (z : X) → slice_get (set xs i y) n ≡ Some z → ((n ≡ i) × (y ≡ z)) ⊎ ((n ≡ i → ⊥) × (slice_get xs n ≡ Some z))
slice_get-set [] i y n z e = cc
slice_get-set (x ∷ xs) zero y zero z e = inl (refl, same_Some y z e)
slice_get-set (x ∷ xs) zero y (suc n) z e = inr (λ h. absurd (omega (arith, h)), e)
slice_get-set (x ∷ xs) (suc i) y zero z e = inr (λ h. absurd (omega (arith, h)), e)
slice_get-set (x ∷ xs) (suc i) y (suc n) z e =
    elim (slice_get-set xs i y n z e) [
      | inl w ↦ inl (ap suc w.0, w.1)
      | inr w ↦ inr (λ h. w.0 (omega (arith, h)), w.1)
    ]

pub slice_get_left : {X : Type 0} (xs ys : List X) (k : ℕ) → k < length xs → slice_get (xs ++ ys) k ≡ slice_get xs k
slice_get_left [] ys k h = absurd (omega arith)
slice_get_left (x ∷ xs) ys zero h = refl
slice_get_left (x ∷ xs) ys (suc k) h = slice_get_left xs ys k (omega arith)

pub slice_get_more : {X : Type 0} (xs ys : List X) (k : ℕ) (x : X) → slice_get xs k ≡ Some x → slice_get (xs ++ ys) k ≡ Some x
slice_get_more [] ys k x e = cc
slice_get_more (y ∷ xs) ys zero x e = e
slice_get_more (y ∷ xs) ys (suc k) x e = slice_get_more xs ys k x e

pub slice_get_seam : {X : Type 0} (xs : List X) (y : X) (ys : List X) → slice_get (xs ++ y ∷ ys) (length xs) ≡ Some y
slice_get_seam [] y ys = refl
slice_get_seam (x ∷ xs) y ys = slice_get_seam xs y ys

-- an element found at an index is found there in a longer list
pub found_more : {X Y : Type 0} (f : X → Option Y) (xs ys : List X) (k : ℕ) (y : Y) → option_and_then f (slice_get xs k) ≡ Some y → option_and_then f (slice_get (xs ++ ys) k) ≡ Some y
found_more f [] ys k y e = cc
found_more f (x ∷ xs) ys zero y e = e
found_more f (x ∷ xs) ys (suc k) y e = found_more f xs ys k y e

-- the items after the first ones
pub slice_get-drop : {X : Type 0} (xs : List X) (k i : ℕ) → slice_get (drop k xs) i ≡ slice_get xs (k + i)
slice_get-drop xs zero i = let same : i ≡ 0 + i = omega arith in ap (slice_get xs) same
slice_get-drop [] (suc k) i = refl
slice_get-drop (x ∷ xs) (suc k) i = let next : suc (k + i) ≡ suc k + i = omega arith in slice_get-drop xs k i ∙ ap (slice_get (x ∷ xs)) next

-- ---- lists that grow at their ends

pub Grows-then : {X : Type 0} (xs ys zs : List X) → Grows xs ys → Grows ys zs → Grows xs zs
Grows-then xs ys zs g h = (g.0 ++ h.0, h.1 ∙ ap (λ us. us ++ h.0) g.1 ∙ append_assoc xs g.0 h.0)

-- a longer list is cut back to the one before
pub take-Grows : {X : Type 0} (xs ys : List X) → Grows xs ys → take (length xs) ys ≡ xs
take-Grows xs ys g = ap (take (length xs)) g.1 ∙ take-append_seam xs g.0

pub length-Grows : {X : Type 0} (xs ys : List X) → Grows xs ys → length xs ≤ length ys
length-Grows xs ys g = omega (arith, ap length g.1, length-append xs g.0)
