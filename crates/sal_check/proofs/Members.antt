-- Elements of a list.
use Rattle.std.proofs.Common.{◌≡◌, Bool, true, false, cond, List, [], ◌∷◌, ◌++◌, inl, inr, refl, sym, map, ◌∙◌}
use Rattle.std.specs.Prelude.{◌⊎◌}
use Rattle.std.specs.List.{filter, flat_map}
pub use Rattle.sal_types.proofs.Handy.{In, In-front, In-back, In-flat}

pub In-either : {X : Type 0} (x : X) (xs ys : List X) → In x (xs ++ ys) → In x xs ⊎ In x ys
In-either x [] ys i = inr i
In-either x (y ∷ xs) ys (inl e) = inl (inl e)
In-either x (y ∷ xs) ys (inr i) = elim (In-either x xs ys i) [ inl h ↦ inl (inr h) | inr h ↦ inr h ]

pub In-from : {X Y : Type 0} (f : X → List Y) (xs : List X) (y : Y) → In y (flat_map f xs) → (x : X) × In x xs × In y (f x)
In-from f [] y i = absurd i
In-from f (z ∷ xs) y i = elim (In-either y (f z) (flat_map f xs) i) [
  | inl h ↦ (z, inl refl, h)
  | inr h ↦ let (x, at, here) = In-from f xs y h in (x, inr at, here)
]

pub In-map : {X Y : Type 0} (f : X → Y) (xs : List X) (x : X) → In x xs → In (f x) (map f xs)
In-map f [] x i = absurd i
In-map f (z ∷ xs) x (inl e) = inl (λ i. f (e i))
In-map f (z ∷ xs) x (inr h) = inr (In-map f xs x h)

pub In-from_map : {X Y : Type 0} (f : X → Y) (xs : List X) (y : Y) → In y (map f xs) → (x : X) × In x xs × (y ≡ f x)
In-from_map f [] y i = absurd i
In-from_map f (z ∷ xs) y (inl e) = (z, inl refl, e)
In-from_map f (z ∷ xs) y (inr h) = let (x, at, here) = In-from_map f xs y h in (x, inr at, here)

pub In-kept : {X : Type 0} (test : X → Bool) (xs : List X) (x : X) → test x ≡ true → In x xs → In x (filter test xs)
In-kept test [] x passes i = absurd i
In-kept test (z ∷ xs) x passes (inl e) = rw (sym (λ i. test (e i)) ∙ passes) (inl e)
In-kept test (z ∷ xs) x passes (inr h) = elim (test z) as (λ b. In x (cond b (z ∷ filter test xs) (filter test xs))) [
  | true ↦ inr (In-kept test xs x passes h)
  | false ↦ In-kept test xs x passes h
]

was_by : {X : Type 0} (x z : X) (xs ys : List X) (b : Bool) → (In x ys → In x xs) → In x (cond b (z ∷ ys) ys) → In x (z ∷ xs)
was_by x z xs ys true f (inl e) = inl e
was_by x z xs ys true f (inr h) = inr (f h)
was_by x z xs ys false f h = inr (f h)

pub In-was : {X : Type 0} (test : X → Bool) (xs : List X) (x : X) → In x (filter test xs) → In x xs
In-was test [] x i = absurd i
In-was test (z ∷ xs) x i = was_by x z xs (filter test xs) (test z) (λ h. In-was test xs x h) i
