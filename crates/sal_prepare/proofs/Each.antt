-- Lists that are made element by element.
use Rattle.std.proofs.Common.{◌≡◌, ℕ, ◌+◌, zero, suc, List, [], ◌∷◌, ◌++◌, length, drop, map, Option, Some, None, Result, Ok, Err, append_assoc, refl, ap, sym, ◌∙◌, subst, arith}
use Rattle.std.specs.Prelude.{slice_get}
use Rattle.std.specs.Result.{IsErrAnd}
use Rattle.sal_types.specs.Reading.{◌>>=◌}
use Rattle.sal_prepare.specs.declared.status.Status.{Status}
use Rattle.sal_prepare.specs.declared.status.Status.TheVariants.{BadScript, BadSchema, BadOpening, NoMemory}
use Rattle.sal_prepare.specs.Each.{each_from}
use Rattle.sal_prepare.specs.Scripted.{Comes, IsStatusOf, or_schema, with_next}
use Rattle.sal_versions.proofs.Bound.{bind_ok, same_ok}
pub use Rattle.sal_script.proofs.Each.{before}

one_more : {B : Type 0} (r : Result B Status) (done : List B) (rest : Result (List B) Status)
    → before done (r >>= (λ y. rest >>= (λ ys. Ok (y ∷ ys)))) ≡ (with_next done r >>= (λ more. before more rest))
one_more (Err e) done rest = refl
one_more (Ok y) done (Err e) = refl
one_more (Ok y) done (Ok ys) = ap Ok (sym (append_assoc done (y ∷ []) ys))

some_is : {A : Type 0} {a b : A} → (let o : Option A = Some a in o) ≡ Some b → a ≡ b
some_is e = cc

dropped_by : {A : Type 0} (xs : List A) (i : ℕ) (x : A) → slice_get xs i ≡ Some x → drop i xs ≡ x ∷ drop (suc i) xs
dropped_by [] i x at = cc
dropped_by (y ∷ xs) zero x at = ap (λ z. z ∷ xs) (some_is at)
dropped_by (y ∷ xs) (suc i) x at = dropped_by xs i x at

dropped : {A : Type 0} (xs : List A) (i : ℕ) (x : A) → slice_get xs i ≡ Some x → drop i xs ≡ x ∷ drop (i + 1) xs
dropped xs i x at = let next : suc i ≡ i + 1 = omega (arith) in dropped_by xs i x at ∙ ap (λ k. x ∷ drop k xs) next

module _ {A B : Type 0} (make : ℕ → A → Result B Status) (xs : List A) (done : List B) (i : ℕ) (x : A) (at : slice_get xs i ≡ Some x) where
  turn : before done (each_from make i (drop i xs)) ≡ (with_next done (make i x) >>= (λ more. before more (each_from make (i + 1) (drop (i + 1) xs))))
  turn = rw (dropped xs i x at) (one_more (make i x) done (each_from make (i + 1) (drop (i + 1) xs)))

  -- the next is made
  pub goes : (total : Result (List B) Status) (new : List B) → with_next done (make i x) ≡ Ok new → before done (each_from make i (drop i xs)) ≡ total
      → before new (each_from make (i + 1) (drop (i + 1) xs)) ≡ total
  goes total new made so_far = sym (ap (λ (r : Result (List B) Status). r >>= (λ more. before more (each_from make (i + 1) (drop (i + 1) xs)))) made) ∙ sym turn ∙ so_far

  -- it fails, and so all fail
  pub stops : (total : Result (List B) Status) (e : Status) → IsStatusOf (with_next done (make i x)) e → before done (each_from make i (drop i xs)) ≡ total → IsStatusOf total e
  stops total NoMemory fault so_far = tt
  stops total (BadScript place) fault so_far = sym so_far ∙ turn ∙ ap (λ (r : Result (List B) Status). r >>= (λ more. before more (each_from make (i + 1) (drop (i + 1) xs)))) fault
  stops total (BadSchema n text) fault so_far = sym so_far ∙ turn ∙ ap (λ (r : Result (List B) Status). r >>= (λ more. before more (each_from make (i + 1) (drop (i + 1) xs)))) fault
  stops total (BadOpening text) fault so_far = sym so_far ∙ turn ∙ ap (λ (r : Result (List B) Status). r >>= (λ more. before more (each_from make (i + 1) (drop (i + 1) xs)))) fault
  stops total status fault so_far = absurd fault

-- nothing was made before
pub before_none : {B F : Type 0} (rest : Result (List B) F) → before [] rest ≡ rest
before_none (Ok more) = refl
before_none (Err e) = refl

-- as many are made as there are elements
pub each_long : {A B : Type 0} (make : ℕ → A → Result B Status) (n : ℕ) (xs : List A) (ys : List B) → each_from make n xs ≡ Ok ys → length ys ≡ length xs
each_long make n [] ys made = sym (ap length (same_ok made))
each_long make n (x ∷ xs) ys made =
    let first = bind_ok (make n x) (λ y. each_from make (n + 1) xs >>= (λ more. Ok (y ∷ more))) ys made in
    let rest = bind_ok (each_from make (n + 1) xs) (λ more. Ok (first.0 ∷ more)) ys first.2 in
    sym (ap length (same_ok rest.2)) ∙ ap suc (each_long make (n + 1) xs rest.0 rest.1)

-- the fault that a `?` passes on
pub comes_err : {A X : Type 0} (seen : X → A) (made : Result A Status) (result : Result X Status) (e : Status) → IsErrAnd result (λ d. d ≡ e) → IsStatusOf made e → Comes seen made result
comes_err seen made (Ok x) e is fault = absurd is
comes_err seen made (Err d) e is fault = subst (IsStatusOf made) (sym is) fault

-- after a fault there is no further result
pub bind_fault : {A B : Type 0} (r : Result A Status) (f : A → Result B Status) (e : Status) → IsStatusOf r e → IsStatusOf (r >>= f) e
bind_fault r f NoMemory fault = tt
bind_fault r f (BadScript place) fault = ap (λ made. made >>= f) fault
bind_fault r f (BadSchema n text) fault = ap (λ made. made >>= f) fault
bind_fault r f (BadOpening text) fault = ap (λ made. made >>= f) fault
bind_fault r f status fault = absurd fault

-- after a fault no more are made
pub with_fault : {A : Type 0} (done : List A) (next : Result A Status) (e : Status) → IsStatusOf next e → IsStatusOf (with_next done next) e
with_fault done next e fault = bind_fault next (λ x. Ok (done ++ x ∷ [])) e fault

-- the schema of a domain's modules is made from them
pub schema-ok : {A : Type 0} (n : ℕ) (made : Result A (List ℕ)) (x : A) → or_schema n made ≡ Ok x → made ≡ Ok x
schema-ok n (Ok y) x e = cc
schema-ok n (Err text) x e = cc
