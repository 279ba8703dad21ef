-- Texts of decimal numbers.
use Rattle.std.proofs.Common.{◌≡◌, ℕ, zero, suc, ◌+◌, ◌-◌, ◌/◌, ◌%◌, ◌<◌, ◌≤◌, ◌==◌, true, false, [], ◌∷◌, ◌++◌, refl, arith}
use Rattle.std.proofs.lemmas.Bool.Decides.{nat_tests}
use Rattle.sal_json.specs.Numerals.{with_point, point_text}

pub with_point-more : (digits n : ℕ) → 0 < digits → with_point digits n ≡ with_point (digits - 1) (n / 10) ++ (48 + n % 10) ∷ []
with_point-more zero n some = absurd (omega arith)
with_point-more (suc digits) n some = let e : suc digits - 1 ≡ digits = omega arith in rw e refl

is_zero : (n : ℕ) → n ≡ 0 → (n == 0) ≡ true
is_zero n e = grind (arith, nat_tests)

is_no_zero : (n : ℕ) → (n ≡ 0 → ⊥) → (n == 0) ≡ false
is_no_zero n other = grind (arith, nat_tests)

pub point_text-zero : (digits n : ℕ) → 1 < digits → n % 10 ≡ 0 → point_text digits n ≡ point_text (digits - 1) (n / 10)
point_text-zero zero n many e = absurd (omega arith)
point_text-zero (suc zero) n many e = absurd (omega arith)
point_text-zero (suc (suc digits)) n many e =
    let last : (n % 10 == 0) ≡ true = is_zero (n % 10) e in
    let less : suc (suc digits) - 1 ≡ suc digits = omega arith in
    rw (last, less) refl

pub point_text-one : (digits n : ℕ) → digits ≤ 1 → point_text digits n ≡ with_point digits n
point_text-one zero n few = refl
point_text-one (suc zero) n few = refl
point_text-one (suc (suc digits)) n few = absurd (omega arith)

pub point_text-other : (digits n : ℕ) → 1 < digits → (n % 10 ≡ 0 → ⊥) → point_text digits n ≡ with_point digits n
point_text-other zero n many other = absurd (omega arith)
point_text-other (suc zero) n many other = absurd (omega arith)
point_text-other (suc (suc digits)) n many other = let last : (n % 10 == 0) ≡ false = is_no_zero (n % 10) other in rw last refl
