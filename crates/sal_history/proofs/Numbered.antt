-- Elements that are looked up by their number, from 1 on.
use Rattle.std.proofs.Common.{◌≡◌, ℕ, zero, suc, ◌+◌, ◌-◌, ◌<◌, ◌≤◌, List, [], ◌∷◌, ◌++◌, length, map, Some, refl, ap, ◌∙◌, arith}
use Rattle.std.specs.Prelude.{slice_get}
use Rattle.std.specs.Option.{option_map}
use Rattle.std.proofs.lemmas.Option.{none-some, slice_get-map, slice_get_within}
use Rattle.sal_history.specs.Numbered.{numbered}

-- it is the one at the index before
pub numbered-low : {X : Type 0} (xs : List X) (n : ℕ) → 0 < n → numbered xs n ≡ slice_get xs (n - 1)
numbered-low xs zero low = absurd (omega (arith, low))
numbered-low xs (suc i) low = let same : i ≡ suc i - 1 = omega arith in ap (slice_get xs) same

pub numbered-at : {X : Type 0} (xs : List X) (n : ℕ) (x : X) → 0 < n → slice_get xs (n - 1) ≡ Some x → numbered xs n ≡ Some x
numbered-at xs n x low at = numbered-low xs n low ∙ at

pub numbered-is : {X : Type 0} (xs : List X) (n : ℕ) (x : X) → numbered xs n ≡ Some x → slice_get xs (n - 1) ≡ Some x
numbered-is xs zero x at = absurd (none-some x at)
numbered-is xs (suc i) x at = let same : suc i - 1 ≡ i = omega arith in ap (slice_get xs) same ∙ at

-- its number is not 0, and not beyond the last
pub numbered-within : {X : Type 0} (xs : List X) (n : ℕ) (x : X) → numbered xs n ≡ Some x → (0 < n) × (n ≤ length xs)
numbered-within xs zero x at = absurd (none-some x at)
numbered-within xs (suc i) x at = let within : i < length xs = slice_get_within xs i x at in (omega arith, omega (arith, within))

pub numbered-map : {X Y : Type 0} (f : X → Y) (xs : List X) (n : ℕ) → numbered (map f xs) n ≡ option_map f (numbered xs n)
numbered-map f xs zero = refl
numbered-map f xs (suc i) = slice_get-map f xs i

front : {X : Type 0} (xs ys : List X) (i : ℕ) (x : X) → slice_get xs i ≡ Some x → slice_get (xs ++ ys) i ≡ Some x
front [] ys i x at = absurd (none-some x at)
front (y ∷ xs) ys zero x at = at
front (y ∷ xs) ys (suc i) x at = front xs ys i x at

-- it stays when elements are added
pub numbered-more : {X : Type 0} (xs ys : List X) (n : ℕ) (x : X) → numbered xs n ≡ Some x → numbered (xs ++ ys) n ≡ Some x
numbered-more xs ys zero x at = absurd (none-some x at)
numbered-more xs ys (suc i) x at = front xs ys i x at

end : {X : Type 0} (xs : List X) (x : X) → slice_get (xs ++ x ∷ []) (length xs) ≡ Some x
end [] x = refl
end (y ∷ xs) x = end xs x

-- the last one
pub numbered-last : {X : Type 0} (xs : List X) (x : X) → numbered (xs ++ x ∷ []) (length xs + 1) ≡ Some x
numbered-last xs x = let next : length xs + 1 ≡ suc (length xs) = omega arith in ap (numbered (xs ++ x ∷ [])) next ∙ end xs x
