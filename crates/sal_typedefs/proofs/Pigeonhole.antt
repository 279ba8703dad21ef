-- A function from the numbers below n to those below m that gives no number twice: n is at most m.
use Rattle.std.proofs.Common.{◌≡◌, ℕ, zero, suc, ◌<◌, ◌≤◌, ◌==◌, if◌then◌else◌, ◌⊎◌, ◌∙◌, refl, sym, inl, inr, arith}
use Rattle.std.proofs.lemmas.Bool.{cases_Bool}
use Rattle.std.proofs.lemmas.Bool.Decides.{nat_tests}

-- the same function without a number: who would get it gets that of the last one
abbrev avoiding : (ℕ → ℕ) → ℕ → ℕ → ℕ → ℕ
avoiding f m last i = if f i == m then f last else f i

avoids : (x m y : ℕ) → ((x ≡ m) × ((if x == m then y else x) ≡ y)) ⊎ ((x ≡ m → ⊥) × ((if x == m then y else x) ≡ x))
avoids x m y = elim (cases_Bool (x == m)) [
  | inl e ↦ let same : x ≡ m = grind (arith, nat_tests) in inl (same, rw e refl)
  | inr e ↦ let other : x ≡ m → ⊥ = λ h. grind (arith, nat_tests) in inr (other, rw e refl)
]

abbrev pub Into : (ℕ → ℕ) → ℕ → ℕ → Type 0
Into f n m = (i : ℕ) → i < n → f i < m

abbrev pub OneToOne : (ℕ → ℕ) → ℕ → Type 0
OneToOne f n = (i j : ℕ) → i < n → j < n → f i ≡ f j → i ≡ j

into-less : (f : ℕ → ℕ) (n m : ℕ) → Into f (suc n) (suc m) → OneToOne f (suc n) → Into (avoiding f m n) n m
into-less f n m into one i p =
    let a = into i (omega arith) in
    let b = into n (omega arith) in
    let ne : f i ≡ f n → ⊥ = λ e. let z = one i n (omega arith) (omega arith) e in omega arith in
    elim (avoids (f i) m (f n)) [ inl w ↦ omega (arith, w.0, w.1) | inr w ↦ omega (arith, w.0, w.1) ]

one-less : (f : ℕ → ℕ) (n m : ℕ) → OneToOne f (suc n) → OneToOne (avoiding f m n) n
one-less f n m one i j p q e =
    elim (avoids (f i) m (f n)) [
      | inl v ↦ elim (avoids (f j) m (f n)) [
        | inl w ↦ one i j (omega arith) (omega arith) (v.0 ∙ sym w.0)
        | inr w ↦ let z = one n j (omega arith) (omega arith) (sym v.1 ∙ e ∙ w.1) in absurd (omega arith)
      ]
      | inr v ↦ elim (avoids (f j) m (f n)) [
        | inl w ↦ let z = one i n (omega arith) (omega arith) (sym v.1 ∙ e ∙ w.1) in absurd (omega arith)
        | inr w ↦ one i j (omega arith) (omega arith) (sym v.1 ∙ e ∙ w.1)
      ]
    ]

pub pigeonhole : (n m : ℕ) (f : ℕ → ℕ) → Into f n m → OneToOne f n → n ≤ m
pigeonhole zero m f into one = omega arith
pigeonhole (suc n) zero f into one = absurd (omega (arith, into n (omega arith)))
pigeonhole (suc n) (suc m) f into one = omega (arith, pigeonhole n m (avoiding f m n) (into-less f n m into one) (one-less f n m one))
