-- A list that a test finds empty.
use Rattle.std.proofs.Common.{◌≡◌, ℕ, Bool, true, false, List, [], ◌∷◌, length, map, refl, ap, sym, ◌∙◌, true≢false, arith}
use Rattle.std.specs.Prelude.{nat_eq}
use Rattle.std.proofs.lemmas.Bool.{ne_eqb}

pub none_of : {A B : Type 0} (f : A → B) (xs : List A) (b : Bool) → b ≡ nat_eq (length xs) 0 → b ≡ true → map f xs ≡ []
none_of f [] b is so = refl
none_of f (x ∷ xs) b is so = absurd (true≢false (sym so ∙ is ∙ ne_eqb (length (x ∷ xs)) 0 (λ e. absurd (omega (arith, e)))))

pub some_of : {A B : Type 0} (f : A → B) (xs : List A) (b : Bool) → b ≡ nat_eq (length xs) 0 → b ≡ false → map f xs ≡ [] → ⊥
some_of f [] b is so none = true≢false (sym is ∙ so)
some_of f (x ∷ xs) b is so none = cc

pub none_in : {A : Type 0} (xs : List A) (b : Bool) → b ≡ nat_eq (length xs) 0 → b ≡ true → xs ≡ []
none_in [] b is so = refl
none_in (x ∷ xs) b is so = absurd (true≢false (sym so ∙ is ∙ ne_eqb (length (x ∷ xs)) 0 (λ e. absurd (omega (arith, e)))))

pub some_in : {A : Type 0} (xs : List A) (b : Bool) → b ≡ nat_eq (length xs) 0 → b ≡ false → xs ≡ [] → ⊥
some_in [] b is so none = true≢false (sym is ∙ so)
some_in (x ∷ xs) b is so none = cc
