-- The text of a whole number reads as the number.
use Rattle.std.proofs.Common.{◌≡◌, ℕ, suc, ◌+◌, ◌-◌, ◌*◌, ◌^◌, ◌<◌, ◌≤◌, ◌==◌, nat_lt, ℤ, pos, negsuc, Bool, true, false, not, ◌&&◌, List, [], ◌∷◌, length, fold, Ok, refl, ap, ◌∙◌, inl, inr, rules, arith, decimal as digits_of}
use Rattle.std.specs.Fmt.{signed_decimal}
use Rattle.std.specs.Char.{is_ascii_digit}
use Rattle.std.specs.List.{list_all}
use Rattle.std.proofs.lemmas.Bool.{cases_Bool, cases_lt, and_parts, and_from, or_right}
use Rattle.std.proofs.lemmas.Bool.Decides.{nat_tests}
use Rattle.std.proofs.lemmas.Int.{ints}
use Rattle.std.proofs.lemmas.Str.Parse.{IsNumeralModel, numerals_by_fold}
use Rattle.std.proofs.lemmas.Fmt.{digits_decimal, digits_value-decimal, decimal_nonempty, first_decimal, decimal_digit}
use Rattle.sal_types.specs.declared.value.Atom.{Atom}
use Rattle.sal_types.specs.declared.value.Atom.TheVariants.{Signed, Unsigned}
use Rattle.sal_restrict.specs.declared.ranges.Part.{Part}
use Rattle.sal_restrict.specs.Bounds.{is_digits, decimal, signed}
use Rattle.sal_restrict.specs.Ranges.{holds}
use Rattle.sal_json.specs.declared.fault.ScalarFault.TheVariants.{OutOfRange}
use Rattle.sal_json.specs.Numerals.{has_minus, has_plus, without_sign, without_minus, begins_with_zero, is_whole, is_strict, is_number, number_of, is_in_64, whole_atom, int_atom}
use Rattle.sal_json.proofs.Chosen.{chosen}

abbrev read_on : ℕ → List ℕ → ℕ
read_on n t = fold (λ n c. 10 * n + (c - 48)) n t

own : IsNumeralModel (λ t. list_all is_ascii_digit t ≡ true) (read_on 0)
own = numerals_by_fold _ (search rules) read_on (search rules)

is_positive : (n : ℕ) → 0 < n → (n == 0) ≡ false
is_positive n h = grind (arith, nat_tests)

pub digits_of-digits : (n : ℕ) → n < 2 ^ 64 → is_digits (digits_of n) ≡ true
digits_of-digits n h = and_from _ _ (ap not (is_positive (length (digits_of n)) (decimal_nonempty n h))) (digits_decimal own n h)

pub digits_of-value : (n : ℕ) → n < 2 ^ 64 → decimal (digits_of n) ≡ n
digits_of-value n h = digits_value-decimal own n h

digit_bounds : (c : ℕ) → is_ascii_digit c ≡ true → (48 ≤ c) × (c ≤ 57)
digit_bounds c e = grind (arith, nat_tests)

other_than : (c d : ℕ) → 48 ≤ c → d < 48 → (c == d) ≡ false
other_than c d h less = grind (arith, nat_tests)

-- digits have no sign in front
pub signless : (t : List ℕ) → is_digits t ≡ true → (has_minus t ≡ false) × (has_plus t ≡ false)
signless [] e = cc
signless (c ∷ t) e =
    let all = (and_parts (not (length (c ∷ t) == 0)) (list_all is_ascii_digit (c ∷ t)) e).1 in
    let bounds = digit_bounds c (and_parts (is_ascii_digit c) (list_all is_ascii_digit t) all).0 in
    (other_than c 45 bounds.0 (omega arith), other_than c 43 bounds.0 (omega arith))

pub without_sign-digits : (t : List ℕ) → is_digits t ≡ true → without_sign t ≡ t
without_sign-digits t e = let (minus, plus) = signless t e in rw (minus, plus) refl

without_minus-digits : (t : List ℕ) → is_digits t ≡ true → without_minus t ≡ t
without_minus-digits t e = let (minus, plus) = signless t e in rw minus refl

not_zero_first : (n : ℕ) → 0 < n → n < 2 ^ 64 → begins_with_zero (digits_of n) ≡ false
not_zero_first n some h = let first = first_decimal n some h in grind (arith, nat_tests)

strict-positive : (n : ℕ) → 0 < n → n < 2 ^ 64 → is_strict (digits_of n) ≡ true
strict-positive n some h =
    let digits = digits_of-digits n h in
    let more : (is_digits (without_minus (digits_of n)) && not (begins_with_zero (without_minus (digits_of n)))) ≡ true =
    rw (without_minus-digits (digits_of n) digits) (and_from _ _ digits (ap not (not_zero_first n some h))) in
    or_right _ _ more

strict-zero : is_strict (digits_of 0) ≡ true
strict-zero = ap is_strict (decimal_digit 0 (omega arith))

both : (bits : ℕ) (t : List ℕ) → is_whole t ≡ true → is_strict t ≡ true → is_number bits t ≡ true
both bits t whole strict = elim (cases_Bool (bits == 64)) [ inl e ↦ rw e whole | inr e ↦ rw e strict ]

-- of a number that a type of 64 bits has, with a sign or without
pub record IsSmall (z : ℤ) : Type 0 where
  pub text : (bits : ℕ) → is_number bits (signed_decimal z) ≡ true
  pub number : number_of (signed_decimal z) ≡ z

pub unsigned-IsSmall : (n : ℕ) → n < 2 ^ 64 → IsSmall (pos n)
unsigned-IsSmall n h =
    let digits = digits_of-digits n h in
    let whole : is_whole (digits_of n) ≡ true = ap is_digits (without_sign-digits (digits_of n) digits) ∙ digits in
    let strict : is_strict (digits_of n) ≡ true = elim (cases_lt 0 n) [
      | inl some ↦ strict-positive n some h
      | inr none ↦ let zero_too : n ≡ 0 = omega arith in ap (λ k. is_strict (digits_of k)) zero_too ∙ strict-zero
    ] in
    record {
      text = λ bits. both bits (digits_of n) whole strict;
      number = (λ i. signed ((signless (digits_of n) digits).0 i) (decimal (without_sign-digits (digits_of n) digits i))) ∙ ap pos (digits_of-value n h);
    }

pub negative-IsSmall : (n : ℕ) → suc n < 2 ^ 64 → IsSmall (negsuc n)
negative-IsSmall n h =
    let digits = digits_of-digits (suc n) h in
    let some : 0 < suc n = omega arith in
    let strict : is_strict (45 ∷ digits_of (suc n)) ≡ true = or_right _ _ (and_from _ _ digits (ap not (not_zero_first (suc n) some h))) in
    record {
      text = λ bits. both bits (45 ∷ digits_of (suc n)) digits strict;
      number = ap (signed true) (digits_of-value (suc n) h);
    }

pub in_64-IsSmall : (z : ℤ) → is_in_64 z ≡ true → IsSmall z
in_64-IsSmall (pos n) e = unsigned-IsSmall n (grind (arith, ints, nat_tests))
in_64-IsSmall (negsuc n) e = negative-IsSmall n (grind (arith, ints, nat_tests))

-- what is written for a value of an integer type reads as it
pub int_readable : (bits : ℕ) (sign : Bool) (range : List Part) (z : ℤ) → IsSmall z → int_atom bits sign range (signed_decimal z) ≡ whole_atom sign range z
int_readable bits sign range z small = rw (small.text bits, small.number) refl

below_64 : (n : ℕ) → nat_lt n 18446744073709551616 ≡ true → n < 2 ^ 64
below_64 n e = grind (arith, nat_tests)

pub whole-IsSmall : (sign : Bool) (range : List Part) (z : ℤ) (atom : Atom) → whole_atom sign range z ≡ Ok atom → IsSmall z
whole-IsSmall true range z atom e = in_64-IsSmall z (and_parts _ _ (chosen (is_in_64 z && holds range z) (Ok (Signed z)) OutOfRange atom e).0).0
whole-IsSmall false range (pos n) atom e =
    unsigned-IsSmall n (below_64 n (and_parts _ _ (chosen (nat_lt n 18446744073709551616 && holds range (pos n)) (Ok (Unsigned n)) OutOfRange atom e).0).0)
whole-IsSmall false range (negsuc n) atom e = cc
