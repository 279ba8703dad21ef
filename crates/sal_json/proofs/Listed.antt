-- Lists, element by element.
use Rattle.std.proofs.Common.{◌≡◌, ℕ, zero, suc, ◌+◌, ◌<◌, Bool, true, false, ◌||◌, refl, List, [], ◌∷◌, ◌++◌, length, map, take, get_or, Some, ap, sym, ◌∙◌, arith}
use Rattle.std.proofs.lemmas.Bool.{or_left, or_right}
use Rattle.std.specs.List.{list_any, slice_get}

pub any_map-at : {X Y : Type 0} (f : X → Y) (test : Y → Bool) (xs : List X) (k : ℕ) (d : X) → k < length xs → test (f (get_or xs k d)) ≡ true → list_any test (map f xs) ≡ true
any_map-at f test [] k d inside e = absurd (omega arith)
any_map-at f test (x ∷ xs) zero d inside e = or_left _ _ e
any_map-at f test (x ∷ xs) (suc k) d inside e = or_right _ _ (any_map-at f test xs k d (omega arith) e)

pub map_take-more : {X Y : Type 0} (f : X → Y) (xs : List X) (k : ℕ) (x : X) → slice_get xs k ≡ Some x → map f (take (k + 1) xs) ≡ map f (take k xs) ++ f x ∷ []
map_take-more f [] k x e = cc
map_take-more f (y ∷ xs) zero x e = let same : y ≡ x = cc in ap (λ z. f z ∷ []) same
map_take-more f (y ∷ xs) (suc k) x e = let more : suc k + 1 ≡ suc (k + 1) = omega arith in rw more (ap (λ t. f y ∷ t) (map_take-more f xs k x e))

-- the item at a place of the list under f
pub slice_get-map : {X Y : Type 0} (f : X → Y) (xs : List X) (k : ℕ) (x : X) (y : Y) → slice_get xs k ≡ Some x → slice_get (map f xs) k ≡ Some y → y ≡ f x
slice_get-map f [] k x y e h = cc
slice_get-map f (z ∷ xs) zero x y e h = let a : z ≡ x = cc in let b : f z ≡ y = cc in sym b ∙ ap f a
slice_get-map f (z ∷ xs) (suc k) x y e h = slice_get-map f xs k x y e h

-- where no element of the front is one, and the next is none, no element of the longer front is one
pub none_take-more : {X : Type 0} (test : X → Bool) (xs : List X) (k : ℕ) (x : X) → slice_get xs k ≡ Some x → list_any test (take k xs) ≡ false → test x ≡ false → list_any test (take (k + 1) xs) ≡ false
none_take-more test [] k x e none is = cc
none_take-more test (y ∷ xs) zero x e none is = let same : y ≡ x = cc in let at : test y ≡ false = ap test same ∙ is in rw at refl
none_take-more test (y ∷ xs) (suc k) x e none is =
    let more : suc k + 1 ≡ suc (k + 1) = omega arith in
    rw more (elim (test y) as (λ b. (b || list_any test (take k xs)) ≡ false → (b || list_any test (take (k + 1) xs)) ≡ false) [ true ↦ λ h. cc | false ↦ λ h. none_take-more test xs k x e h is ] none)
