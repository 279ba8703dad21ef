-- The results of the elements of a list, one after another.
use Rattle.std.specs.Prelude.{ℕ, ◌+◌, List, [], ◌∷◌, Result, Ok, Err}
use Rattle.sal_types.specs.Reading.{◌>>=◌}

-- each by its number, from n on; the first fault is returned
abbrev pub each_from : {A B F : Type 0} → (ℕ → A → Result B F) → ℕ → List A → Result (List B) F
each_from make n [] = Ok []
each_from make n (x ∷ xs) = make n x >>= (λ y. each_from make (n + 1) xs >>= (λ ys. Ok (y ∷ ys)))
