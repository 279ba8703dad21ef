-- Reading each of a list in order, up to the first fault, as a loop does.
use Rattle.std.proofs.Common.{◌≡◌, ℕ, ◌+◌, ◌<◌, ◌≤◌, List, [], ◌∷◌, ◌++◌, length, get_or, drop, Result, Ok, Err, append_assoc, append-nil, refl, ap, sym, ◌∙◌}
use Rattle.std.proofs.lemmas.List.{drop_more, drop_all}
use Rattle.sal_types.specs.Reading.{◌>>=◌}

-- each is read with its number; the first fault counts
abbrev pub each_from : {A B F : Type 0} → (ℕ → A → Result B F) → ℕ → List A → Result (List B) F
each_from f k [] = Ok []
each_from f k (x ∷ xs) = f k x >>= (λ y. each_from f (k + 1) xs >>= (λ ys. Ok (y ∷ ys)))

-- what was read, and then what is read of the rest
abbrev pub before : {B F : Type 0} → List B → Result (List B) F → Result (List B) F
before done rest = rest >>= (λ more. Ok (done ++ more))

pub before-nil : {B F : Type 0} (r : Result (List B) F) → before [] r ≡ r
before-nil (Ok ys) = refl
before-nil (Err e) = refl

one_more : {B F : Type 0} (r : Result B F) (done : List B) (rest : Result (List B) F)
    → before done (r >>= (λ y. rest >>= (λ ys. Ok (y ∷ ys)))) ≡ (r >>= (λ y. before (done ++ y ∷ []) rest))
one_more (Err e) done rest = refl
one_more (Ok y) done (Err e) = refl
one_more (Ok y) done (Ok ys) = ap Ok (sym (append_assoc done (y ∷ []) ys))

module _ {A B F : Type 0} (f : ℕ → A → Result B F) (done : List B) (i : ℕ) (xs : List A) (total : Result (List B) F) where
  turn : (x : A) → i < length xs → x ≡ get_or xs i x → before done (each_from f i (drop i xs)) ≡ (f i x >>= (λ y. before (done ++ y ∷ []) (each_from f (i + 1) (drop (i + 1) xs))))
  turn x h is =
      let split : drop i xs ≡ x ∷ drop (i + 1) xs = drop_more xs i x h ∙ ap (λ first. first ∷ drop (i + 1) xs) (sym is) in
      rw split (one_more (f i x) done (each_from f (i + 1) (drop (i + 1) xs)))

  -- one is read
  pub each_next : (x : A) (y : B) → i < length xs → x ≡ get_or xs i x → f i x ≡ Ok y → before done (each_from f i (drop i xs)) ≡ total
      → before (done ++ y ∷ []) (each_from f (i + 1) (drop (i + 1) xs)) ≡ total
  each_next x y h is read so_far = sym (turn x h is ∙ ap (λ r. r >>= (λ z. before (done ++ z ∷ []) (each_from f (i + 1) (drop (i + 1) xs)))) read) ∙ so_far

  -- one has a fault
  pub each_fails : (x : A) (e : F) → i < length xs → x ≡ get_or xs i x → f i x ≡ Err e → before done (each_from f i (drop i xs)) ≡ total → total ≡ Err e
  each_fails x e h is read so_far = sym so_far ∙ turn x h is ∙ ap (λ r. r >>= (λ z. before (done ++ z ∷ []) (each_from f (i + 1) (drop (i + 1) xs)))) read

  -- all are read
  pub each_done : length xs ≤ i → before done (each_from f i (drop i xs)) ≡ total → total ≡ Ok done
  each_done h so_far =
      let none : drop i xs ≡ [] = drop_all i xs h in
      sym so_far ∙ ap (λ rest. before done (each_from f i rest)) none ∙ ap Ok (append-nil done)
