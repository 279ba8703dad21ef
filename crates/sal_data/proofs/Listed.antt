-- The items of a list.
use Rattle.std.proofs.Common.{◌≡◌, ◌⊎◌, inl, inr, Bool, true, false, cond, List, [], ◌∷◌, ◌++◌, map, refl, sym, ap, ◌∙◌}
use Rattle.std.specs.List.{All, filter, list_all}
use Rattle.std.proofs.lemmas.Bool.{and_parts, and_from}
use Rattle.std.proofs.lemmas.List.Elements.{All-head, All-tail, All-nil, All-cons}
pub use Rattle.sal_types.proofs.Handy.{In, In-front, In-back}

pub In-either : {X : Type 0} (x : X) (xs ys : List X) → In x (xs ++ ys) → In x xs ⊎ In x ys
In-either x [] ys h = inr h
In-either x (z ∷ xs) ys (inl e) = inl (inl e)
In-either x (z ∷ xs) ys (inr h) = elim (In-either x xs ys h) [ inl a ↦ inl (inr a) | inr b ↦ inr b ]

pub In-map : {X Y : Type 0} (f : X → Y) (x : X) (xs : List X) → In x xs → In (f x) (map f xs)
In-map f x [] h = absurd h
In-map f x (z ∷ xs) (inl e) = inl (ap f e)
In-map f x (z ∷ xs) (inr h) = inr (In-map f x xs h)

pub In-map_from : {X Y : Type 0} (f : X → Y) (y : Y) (xs : List X) → In y (map f xs) → (x : X) × (In x xs) × (y ≡ f x)
In-map_from f y [] h = absurd h
In-map_from f y (z ∷ xs) (inl e) = (z, inl refl, e)
In-map_from f y (z ∷ xs) (inr h) = let (x, there, e) = In-map_from f y xs h in (x, inr there, e)

pub In-filter : {X : Type 0} (p : X → Bool) (x : X) (xs : List X) → In x xs → p x ≡ true → In x (filter p xs)
In-filter p x [] h e = absurd h
In-filter p x (z ∷ xs) (inl s) e = let at : p z ≡ true = ap p (sym s) ∙ e in rw at (inl s)
In-filter p x (z ∷ xs) (inr h) e = elim (p z) as (λ b. In x (cond b (z ∷ filter p xs) (filter p xs))) [
  | true ↦ inr (In-filter p x xs h e)
  | false ↦ In-filter p x xs h e
]

pub In-filter_from : {X : Type 0} (p : X → Bool) (x : X) (xs : List X) → In x (filter p xs) → (In x xs) × (p x ≡ true)
In-filter_from p x [] h = absurd h
In-filter_from p x (z ∷ xs) h = elim (p z) as (λ b. p z ≡ b → In x (cond b (z ∷ filter p xs) (filter p xs)) → (In x (z ∷ xs)) × (p x ≡ true)) [
  | true ↦ λ e h. elim h [ inl s ↦ (inl s, ap p s ∙ e) | inr more ↦ let (there, passes) = In-filter_from p x xs more in (inr there, passes) ]
  | false ↦ λ e h. let (there, passes) = In-filter_from p x xs h in (inr there, passes)
] refl h

pub list_all-In : {X : Type 0} (p : X → Bool) (x : X) (xs : List X) → list_all p xs ≡ true → In x xs → p x ≡ true
list_all-In p x [] h there = absurd there
list_all-In p x (z ∷ xs) h (inl e) = ap p e ∙ (and_parts (p z) (list_all p xs) h).0
list_all-In p x (z ∷ xs) h (inr there) = list_all-In p x xs (and_parts (p z) (list_all p xs) h).1 there

pub All-In : {X : Type 0} (P : X → Type 0) (x : X) (xs : List X) → All P xs → In x xs → P x
All-In P x [] h there = absurd there
All-In P x (z ∷ xs) h (inl e) = let here : P z = All-head P z xs h in rw e here
All-In P x (z ∷ xs) h (inr there) = All-In P x xs (All-tail P z xs h) there

pub list_all-from : {X : Type 0} (p : X → Bool) (xs : List X) → ((x : X) → In x xs → p x ≡ true) → list_all p xs ≡ true
list_all-from p [] h = refl
list_all-from p (x ∷ xs) h = and_from (p x) (list_all p xs) (h x (inl refl)) (list_all-from p xs (λ y there. h y (inr there)))

pub All-from : {X : Type 0} (P : X → Type 0) (xs : List X) → ((x : X) → In x xs → P x) → All P xs
All-from P [] h = All-nil P
All-from P (x ∷ xs) h = All-cons P x xs (h x (inl refl)) (All-from P xs (λ y there. h y (inr there)))
