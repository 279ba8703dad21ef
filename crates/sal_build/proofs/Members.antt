-- Elements of a list, and their indexes.
use Rattle.std.proofs.Common.{◌≡◌, ℕ, zero, suc, ◌+◌, ◌<◌, Bool, true, IsTrue, List, [], ◌∷◌, filter, length, Some, refl, sym, ap, subst, ◌∙◌, inl, inr, arith}
use Rattle.std.specs.Prelude.{find}
use Rattle.std.specs.List.{list_all, list_any, flat_map, enumerate_from, slice_get}
use Rattle.std.proofs.lemmas.Bool.{cases_Bool}
use Rattle.sal_schema.proofs.Conjuncts.{and_first, and_second}
use Rattle.sal_build.proofs.Quiet.{front-nil}
pub use Rattle.sal_types.proofs.Handy.{In, In-back, In-flat}

-- ---- its number

pub record IsNumbered {X : Type 0} (x : X) (xs : List X) : Type 0 where
  pub number : ℕ
  pub less : number < length xs
  pub got : slice_get xs number ≡ Some x

pub numbered : {X : Type 0} (x : X) (xs : List X) → In x xs → IsNumbered x xs
numbered x [] i = absurd i
numbered x (y ∷ xs) (inl e) = record { number = 0; less = omega arith; got = ap (λ z. Some z) (sym e) }
numbered x (y ∷ xs) (inr i) = let rest = numbered x xs i in record { number = suc rest.number; less = omega (arith, rest.less); got = rest.got }

-- with its number in a list that is counted from k on
pub In-counted : {X : Type 0} (k j i : ℕ) (xs : List X) (x : X) → i ≡ k + j → slice_get xs j ≡ Some x → In (i, x) (enumerate_from k xs)
In-counted k j i [] x e got = cc
In-counted k zero i (y ∷ xs) x e got =
    let is : y ≡ x = cc in
    let first : i ≡ k = omega (arith, e) in
    inl (λ n. (first n, sym is n))
In-counted k (suc j) i (y ∷ xs) x e got = inr (In-counted (k + 1) j i xs x (omega (arith, e)) got)

-- ---- tests

pub all-in : {X : Type 0} (test : X → Bool) (xs : List X) (x : X) → IsTrue (list_all test xs) → In x xs → IsTrue (test x)
all-in test [] x h i = absurd i
all-in test (y ∷ xs) x h (inl e) = subst (λ z. IsTrue (test z)) (sym e) (and_first (test y) (list_all test xs) h)
all-in test (y ∷ xs) x h (inr i) = all-in test xs x (and_second (test y) (list_all test xs) h) i

pub all-got : {X : Type 0} (test : X → Bool) (xs : List X) (k : ℕ) (x : X) → IsTrue (list_all test xs) → slice_get xs k ≡ Some x → IsTrue (test x)
all-got test [] k x h e = cc
all-got test (y ∷ xs) zero x h e = let is : y ≡ x = cc in subst (λ z. IsTrue (test z)) is (and_first (test y) (list_all test xs) h)
all-got test (y ∷ xs) (suc k) x h e = all-got test xs k x (and_second (test y) (list_all test xs) h) e

pub any-in : {X : Type 0} (test : X → Bool) (xs : List X) (x : X) → test x ≡ true → In x xs → list_any test xs ≡ true
any-in test [] x passes i = absurd i
any-in test (y ∷ xs) x passes (inl e) = let here : test y ≡ true = ap test (sym e) ∙ passes in rw here refl
any-in test (y ∷ xs) x passes (inr i) = let rest = any-in test xs x passes i in elim (cases_Bool (test y)) [ inl t ↦ rw t refl | inr f ↦ rw f rest ]

-- what finds nothing finds nothing in one of them
pub quiet-in : {X Y : Type 0} (f : X → List Y) (xs : List X) (x : X) → flat_map f xs ≡ [] → In x xs → f x ≡ []
quiet-in f [] x e i = absurd i
quiet-in f (y ∷ xs) x e (inl is) = ap f is ∙ (front-nil (f y) (flat_map f xs) e).0
quiet-in f (y ∷ xs) x e (inr i) = quiet-in f xs x (front-nil (f y) (flat_map f xs) e).1 i

pub found-in : {X : Type 0} (test : X → Bool) (xs : List X) (x : X) → find test xs ≡ Some x → In x xs × (test x ≡ true)
found-in test [] x e = cc
found-in test (y ∷ xs) x e = elim (cases_Bool (test y)) [
  | inl t ↦ (let here : Some y ≡ Some x = rw t at e in let is : y ≡ x = cc in (inl (sym is), ap test (sym is) ∙ t))
  | inr f ↦ (let rest = found-in test xs x (rw f at e) in (inr rest.0, rest.1))
]

pub first-kept : {X : Type 0} (test : X → Bool) (xs : List X) (x : X) (rest : List X) → filter test xs ≡ x ∷ rest → In x xs × (test x ≡ true)
first-kept test [] x rest e = cc
first-kept test (y ∷ xs) x rest e = elim (cases_Bool (test y)) [
  | inl t ↦ (let here : y ∷ filter test xs ≡ x ∷ rest = rw t at e in let is : y ≡ x = cc in (inl (sym is), ap test (sym is) ∙ t))
  | inr f ↦ (let more = first-kept test xs x rest (rw f at e) in (inr more.0, more.1))
]
