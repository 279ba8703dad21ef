-- Sets of bits.
use Rattle.std.proofs.Common.{◌≡◌, ℕ, zero, suc, ◌^◌, ◌<◌, ◌==◌, Bool, true, false, not, max, bit_or, List, [], ◌∷◌, length, Option, Some, None, Ok, Err, refl, ap, sym, ◌∙◌, inl, inr, arith}
use Rattle.std.specs.Prelude.{◌||◌}
use Rattle.std.specs.Int.{bit_at}
use Rattle.std.specs.List.{slice_get, position}
use Rattle.std.specs.Option.{option_and_then}
use Rattle.std.proofs.lemmas.Bool.{cases_Bool, and_parts, and_from, or_left, or_right}
use Rattle.std.proofs.lemmas.Bool.Decides.{nat_tests}
use Rattle.std.proofs.lemmas.Nat.Bits.{bit_at_or, bit_at-pow_other, bit_at-zero}
use Rattle.sal_schema.specs.Table.{is_among}
use Rattle.sal_schema.specs.Values.{all_below, has_bit, is_taken, are_bits}
use Rattle.sal_json.specs.declared.fault.ScalarFault.TheVariants.{WrongKind, UnknownName}
use Rattle.sal_json.specs.Named.{text_eq, number_called, with_bit, with_name, bits_of}
use Rattle.sal_json.proofs.Chosen.{same_ok, otherwise, from_some}
use Rattle.sal_json.proofs.Parted.{parts, bits_after, after-fault}

pub all_below-from : (test : ℕ → Bool) (n : ℕ) → ((k : ℕ) → k < n → test k ≡ true) → all_below test n ≡ true
unfolding all_below
all_below-from test zero each = refl
all_below-from test (suc n) each = and_from _ _ (each n (omega arith)) (all_below-from test n (λ k less. each k (omega arith)))

pub all_below-at : (test : ℕ → Bool) (n k : ℕ) → all_below test n ≡ true → k < n → test k ≡ true
unfolding all_below
all_below-at test zero k all less = absurd (omega arith)
all_below-at test (suc n) k all less =
    let (here, rest) = and_parts (test n) (all_below test n) all in
    elim (cases_Bool (k == n)) [
      | inl same ↦ let e : k ≡ n = grind (arith, nat_tests) in ap test e ∙ here
      | inr other ↦ all_below-at test n k rest (grind (arith, nat_tests))
    ]

pub among_at : (numbers : List ℕ) (i n : ℕ) → slice_get numbers i ≡ Some n → is_among n numbers ≡ true
among_at [] i n e = cc
among_at (m ∷ numbers) zero n e = let same : m ≡ n = cc in let found : (m == n) ≡ true = grind (arith, nat_tests) in or_left (m == n) (is_among n numbers) found
among_at (m ∷ numbers) (suc i) n e = or_right _ _ (among_at numbers i n e)

-- a number that a name has is one of the numbers
pub among_called : (numbers : List ℕ) (at : Option ℕ) (n : ℕ) → option_and_then (slice_get numbers) at ≡ Some n → is_among n numbers ≡ true
among_called numbers None n e = cc
among_called numbers (Some i) n e = among_at numbers i n e

max_zero : (a b : ℕ) → b ≡ 0 → max a b ≡ a
max_zero a b e = omega arith

-- another bit is not changed
pub other_bit : (set p q : ℕ) → (q == p) ≡ false → has_bit (bit_or set (2 ^ p)) q ≡ has_bit set q
other_bit set p q other =
    let none = bit_at-pow_other p q (grind (arith, nat_tests)) in
    ap (λ b. b == 1) (bit_at_or set (2 ^ p) q ∙ max_zero (bit_at set q) (bit_at (2 ^ p) q) none)

no_bit : (q : ℕ) → has_bit 0 q ≡ false
no_bit q = ap (λ b. b == 1) (bit_at-zero q)

taken_without : (positions : List ℕ) (set q : ℕ) → has_bit set q ≡ false → is_taken positions set q ≡ true
taken_without positions set q e = or_left _ _ (ap not e)

pub no_bits : (positions : List ℕ) → are_bits positions 0 ≡ true
no_bits positions = all_below-from (is_taken positions 0) 64 (λ q less. taken_without positions 0 q (no_bit q))

-- one bit more, of a position
pub more_bits : (positions : List ℕ) (set p : ℕ) → are_bits positions set ≡ true → is_among p positions ≡ true → are_bits positions (bit_or set (2 ^ p)) ≡ true
more_bits positions set p all here = all_below-from (is_taken positions (bit_or set (2 ^ p))) 64 (λ q less. elim (cases_Bool (q == p)) [
  | inl same ↦ let e : q ≡ p = grind (arith, nat_tests) in or_right _ _ (ap (λ n. is_among n positions) e ∙ here)
  | inr other ↦ ap (λ b. not b || is_among q positions) (other_bit set p q other) ∙ all_below-at (is_taken positions set) 64 q all less
])

module _ (names : List (List ℕ)) (positions : List ℕ) where
  name-bits : (set new : ℕ) (name : List ℕ) → are_bits positions set ≡ true → with_name names positions set name ≡ Ok new → are_bits positions new ≡ true
  name-bits set new name all e =
      let (filled, found) = otherwise (length name == 0) WrongKind _ new e in
      let (p, called, put) = from_some (with_bit set) (number_called names positions name) UnknownName new found in
      let (free, done) = otherwise (has_bit set p) WrongKind (Ok (bit_or set (2 ^ p))) new put in
      ap (are_bits positions) (sym (same_ok _ _ done)) ∙ more_bits positions set p all (among_called positions (position (text_eq name) names) p called)

  pub after-bits : (texts : List (List ℕ)) (set new : ℕ) → are_bits positions set ≡ true → bits_after names positions (Ok set) texts ≡ Ok new → are_bits positions new ≡ true
  after-bits [] set new all e = ap (are_bits positions) (sym (same_ok set new e)) ∙ all
  after-bits (t ∷ texts) set new all e =
      elim (with_name names positions set t) as (λ r. with_name names positions set t ≡ r → are_bits positions new ≡ true) [
        | Ok more ↦ λ was. after-bits texts more new (name-bits set more t all was) (ap (λ r. bits_after names positions r texts) (sym was) ∙ e)
        | Err fault ↦ λ was. let never = sym (ap (λ r. bits_after names positions r texts) was ∙ after-fault names positions fault texts) ∙ e in cc
      ] refl

  pub bits_of-bits : (t : List ℕ) (new : ℕ) → bits_of names positions t ≡ Ok new → are_bits positions new ≡ true
  unfolding bits_of
  bits_of-bits t new e = elim (cases_Bool (length t == 0)) [
    | inl empty ↦ let none : Ok 0 ≡ Ok new = rw empty at e in ap (are_bits positions) (sym (same_ok 0 new none)) ∙ no_bits positions
    | inr some ↦ let all = rw some at e in after-bits (parts t) 0 new (no_bits positions) all
  ]
