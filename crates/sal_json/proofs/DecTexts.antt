-- The text of a decimal number reads as the number.
use Rattle.std.proofs.Common.{◌≡◌, ℕ, zero, suc, ◌+◌, ◌-◌, ◌*◌, ◌/◌, ◌%◌, ◌^◌, ◌<◌, ◌≤◌, ◌==◌, ℤ, pos, negsuc, Bool, true, false, not, if◌then◌else◌, List, [], ◌∷◌, ◌++◌, length, take, drop, fold, Result, Err, refl, ap, sym, subst, ◌∙◌, inl, inr, append_assoc, arith, decimal as digits_of}
use Rattle.std.specs.Char.{is_ascii_digit}
use Rattle.std.specs.List.{list_all, position_or_len}
use Rattle.std.proofs.Math.Nat.{pow-suc}
use Rattle.std.proofs.lemmas.Nat.{pow-add}
use Rattle.std.proofs.lemmas.Bool.{cases_Bool, and_parts, and_from, or_right}
use Rattle.std.proofs.lemmas.Bool.Decides.{nat_tests}
use Rattle.std.proofs.lemmas.Int.{ints}
use Rattle.std.proofs.lemmas.List.{take_all, drop_all}
use Rattle.sal_types.specs.declared.value.Atom.{Atom}
use Rattle.sal_restrict.specs.declared.ranges.Part.{Part}
use Rattle.sal_restrict.specs.Bounds.{is_digits, decimal, units, signed}
use Rattle.sal_json.specs.declared.fault.ScalarFault.{ScalarFault}
use Rattle.sal_json.specs.declared.fault.ScalarFault.TheVariants.{WrongKind, OutOfRange}
use Rattle.sal_json.specs.Numerals.{has_minus, without_sign, is_point, has_point, whole_digits, further_digits, is_decimal, is_exact, units_of, units_atom, dec_atom, with_point, point_text, dec_text, is_in_64}
use Rattle.sal_json.proofs.WholeTexts.{digits_of-digits, digits_of-value, signless}
use Rattle.sal_restrict.proofs.Digits.{step}

-- ---- digits

fold-snoc : (n : ℕ) (a : List ℕ) (c : ℕ) → fold step n (a ++ c ∷ []) ≡ step (fold step n a) c
fold-snoc n [] c = refl
fold-snoc n (x ∷ a) c = fold-snoc (step n x) a c

-- the last digits of a number, and what is before them
abbrev last : ℕ → ℕ → List ℕ
last zero n = []
last (suc k) n = last k (n / 10) ++ (48 + n % 10) ∷ []

abbrev front : ℕ → ℕ → ℕ
front zero n = n
front (suc k) n = front k (n / 10)

front-le : (k n : ℕ) → front k n ≤ n
front-le zero n = omega arith
front-le (suc k) n = let h = front-le k (n / 10) in omega arith

one_digit : (n x y p : ℕ) → x * p + y ≡ n / 10 → x * (p * 10) + (10 * y + (48 + n % 10 - 48)) ≡ n
one_digit n x y p e = omega arith

parts-value : (k n : ℕ) → front k n * 10 ^ k + decimal (last k n) ≡ n
parts-value zero n = omega arith
parts-value (suc k) n =
    rw (pow-suc 10 k) (ap (λ d. front k (n / 10) * (10 ^ k * 10) + d) (fold-snoc 0 (last k (n / 10)) (48 + n % 10)) ∙ one_digit n (front k (n / 10)) (decimal (last k (n / 10))) (10 ^ k) (parts-value k (n / 10)))

all-snoc : (a : List ℕ) (c : ℕ) → list_all is_ascii_digit a ≡ true → is_ascii_digit c ≡ true → list_all is_ascii_digit (a ++ c ∷ []) ≡ true
all-snoc [] c all here = and_from _ _ here refl
all-snoc (x ∷ a) c all here = let (first, rest) = and_parts (is_ascii_digit x) (list_all is_ascii_digit a) all in and_from _ _ first (all-snoc a c rest here)

is_glyph : (n : ℕ) → is_ascii_digit (48 + n % 10) ≡ true
is_glyph n = grind (arith, nat_tests)

last-digits : (k n : ℕ) → list_all is_ascii_digit (last k n) ≡ true
last-digits zero n = refl
last-digits (suc k) n = all-snoc (last k (n / 10)) (48 + n % 10) (last-digits k (n / 10)) (is_glyph n)

length-snoc : (a : List ℕ) (c : ℕ) → length (a ++ c ∷ []) ≡ suc (length a)
length-snoc [] c = refl
length-snoc (x ∷ a) c = ap suc (length-snoc a c)

length-last : (k n : ℕ) → length (last k n) ≡ k
length-last zero n = refl
length-last (suc k) n = length-snoc (last k (n / 10)) (48 + n % 10) ∙ ap suc (length-last k (n / 10))

with_point-parts : (k n : ℕ) → with_point k n ≡ digits_of (front k n) ++ 46 ∷ last k n
with_point-parts zero n = refl
with_point-parts (suc k) n =
    ap (λ t. t ++ (48 + n % 10) ∷ []) (with_point-parts k (n / 10)) ∙ append_assoc (digits_of (front k (n / 10))) (46 ∷ last k (n / 10)) ((48 + n % 10) ∷ [])

-- ---- a text with a point

not_point : (c : ℕ) → is_ascii_digit c ≡ true → is_point c ≡ false
not_point c e = grind (arith, nat_tests)

module _ (b : List ℕ) where
  point-at : (a : List ℕ) → list_all is_ascii_digit a ≡ true → position_or_len is_point (a ++ 46 ∷ b) ≡ length a
  point-at [] all = refl
  point-at (c ∷ a) all =
      let (here, rest) = and_parts (is_ascii_digit c) (list_all is_ascii_digit a) all in
      let other = not_point c here in
      let more = point-at a rest in
      rw other (omega arith)

  take-front : (a : List ℕ) → take (length a) (a ++ 46 ∷ b) ≡ a
  take-front [] = refl
  take-front (c ∷ a) = ap (λ t. c ∷ t) (take-front a)

  drop-front : (a : List ℕ) → drop (length a + 1) (a ++ 46 ∷ b) ≡ b
  drop-front [] = refl
  drop-front (c ∷ a) = let more : suc (length a) + 1 ≡ suc (length a + 1) = omega arith in rw more (drop-front a)

  point-there : (a : List ℕ) → has_point (a ++ 46 ∷ b) ≡ true
  point-there [] = refl
  point-there (c ∷ a) = or_right _ _ (point-there a)

  signless-front : (a : List ℕ) → is_digits a ≡ true → without_sign (a ++ 46 ∷ b) ≡ a ++ 46 ∷ b
  signless-front [] e = cc
  signless-front (c ∷ a) e = let (minus, plus) = signless (c ∷ a) e in rw (minus, plus) refl

  minus-front : (a : List ℕ) → is_digits a ≡ true → has_minus (a ++ 46 ∷ b) ≡ false
  minus-front [] e = cc
  minus-front (c ∷ a) e = (signless (c ∷ a) e).0

all_digits : (a : List ℕ) → is_digits a ≡ true → list_all is_ascii_digit a ≡ true
all_digits a e = (and_parts (not (length a == 0)) (list_all is_ascii_digit a) e).1

some_digits : (a : List ℕ) → 0 < length a → list_all is_ascii_digit a ≡ true → is_digits a ≡ true
some_digits a some all = let filled : not (length a == 0) ≡ true = grind (arith, nat_tests) in and_from _ _ filled all

-- a text that reads as `n` units
pub record IsUnits (digits n : ℕ) (t : List ℕ) : Type 0 where
  pub sign : without_sign t ≡ t
  pub plus : has_minus t ≡ false
  pub form : is_decimal t ≡ true
  pub exact : is_exact digits t ≡ true
  pub value : units_of digits t ≡ n

spread : (w p q f u n : ℕ) → w * p + f ≡ u → u * q ≡ n → w * (p * q) + f * q ≡ n
spread w p q f u n e h = let all : (w * p + f) * q ≡ u * q = ap (λ x. x * q) e in omega arith

point-IsUnits : (digits k u n : ℕ) → 1 ≤ k → k ≤ digits → u < 2 ^ 64 → u * 10 ^ (digits - k) ≡ n → IsUnits digits n (with_point k u)
point-IsUnits digits k u n low high small e =
    let w = front k u in
    let f = last k u in
    let a = digits_of w in
    let le = front-le k u in
    let fits : w < 2 ^ 64 = omega arith in
    let whole = digits_of-digits w fits in
    let all = all_digits a whole in
    let count = length-last k u in
    let at = point-at f a all in
    let before : whole_digits (a ++ 46 ∷ f) ≡ a = ap (λ i. take i (a ++ 46 ∷ f)) at ∙ take-front f a in
    let behind : further_digits (a ++ 46 ∷ f) ≡ f = ap (λ i. drop (i + 1) (a ++ 46 ∷ f)) at ∙ drop-front f a in
    let some : 0 < length f = omega (arith, count) in
    let few : length f ≤ digits = omega (arith, count) in
    let further = some_digits f some (last-digits k u) in
    let form : is_decimal (a ++ 46 ∷ f) ≡ true = and_from _ _ (ap is_digits before ∙ whole) (or_right _ _ (ap is_digits behind ∙ further)) in
    let exact : is_exact digits (a ++ 46 ∷ f) ≡ true = ap (λ t. list_all (λ c. c == 48) (drop digits t)) behind ∙ ap (list_all (λ c. c == 48)) (drop_all digits f few) in
    let taken : units_of digits (a ++ 46 ∷ f) ≡ units digits a f = (λ i. units digits (before i) (take digits (behind i))) ∙ ap (units digits a) (take_all digits f few) in
    let power : 10 ^ digits ≡ 10 ^ k * 10 ^ (digits - k) = ap (λ x. 10 ^ x) (omega arith) ∙ pow-add 10 k (digits - k) in
    let value : units digits a f ≡ n =
    (λ i. digits_of-value w fits i * power i + decimal f * 10 ^ (digits - count i)) ∙ spread w (10 ^ k) (10 ^ (digits - k)) (decimal f) u n (parts-value k u) e in
    subst (IsUnits digits n) (sym (with_point-parts k u)) (record {
      sign = signless-front f a whole;
      plus = minus-front f a whole;
      form = form;
      exact = exact;
      value = taken ∙ value;
    })

is_last_zero : (n : ℕ) → (n % 10 == 0) ≡ true → 10 * (n / 10) ≡ n
is_last_zero n e = grind (arith, nat_tests)

ten_times : (u p x n : ℕ) → u * p ≡ x → 10 * x ≡ n → u * (p * 10) ≡ n
ten_times u p x n e h = omega arith

-- which number of digits is written
pub record IsPoint (digits n : ℕ) : Type 0 where
  pub places : ℕ
  pub left : ℕ
  pub low : 1 ≤ places
  pub high : places ≤ digits
  pub less : left ≤ n
  pub text : point_text digits n ≡ with_point places left
  pub value : left * 10 ^ (digits - places) ≡ n

times_one : (n k : ℕ) → n * 10 ^ (k - k) ≡ n
times_one n k = let none : k - k ≡ 0 = omega arith in rw none (omega arith)

point-IsPoint : (digits n : ℕ) → IsPoint (suc digits) n
point-IsPoint zero n = record { places = 1; left = n; low = omega arith; high = omega arith; less = omega arith; text = refl; value = times_one n 1 }
point-IsPoint (suc digits) n = elim (cases_Bool (n % 10 == 0)) [
  | inl last ↦
      let rest = point-IsPoint digits (n / 10) in
      let high = rest.high in
      let less = rest.less in
      let one : suc (suc digits) - rest.places ≡ suc (suc digits - rest.places) = omega arith in
      record {
        places = rest.places;
        left = rest.left;
        low = rest.low;
        high = omega arith;
        less = omega arith;
        text = ap (λ b. if b then point_text (suc digits) (n / 10) else with_point (suc (suc digits)) n) last ∙ rest.text;
        value = ap (λ x. rest.left * 10 ^ x) one ∙ ap (λ p. rest.left * p) (pow-suc 10 (suc digits - rest.places)) ∙ ten_times rest.left (10 ^ (suc digits - rest.places)) (n / 10) n rest.value (is_last_zero n last);
      }
  | inr other ↦ record {
    places = suc (suc digits);
    left = n;
    low = omega arith;
    high = omega arith;
    less = omega arith;
    text = ap (λ b. if b then point_text (suc digits) (n / 10) else with_point (suc (suc digits)) n) other;
    value = times_one n (suc (suc digits));
  }
]

pub point_text-IsUnits : (digits n : ℕ) → 1 ≤ digits → n < 2 ^ 64 → IsUnits digits n (point_text digits n)
point_text-IsUnits zero n some small = absurd (omega arith)
point_text-IsUnits (suc digits) n some small =
    let p = point-IsPoint digits n in
    let less = p.less in
    subst (IsUnits (suc digits) n) (sym p.text) (point-IsUnits (suc digits) p.places p.left n p.low p.high (omega arith) p.value)

module _ (digits : ℕ) (range : List Part) where
  abbrev if_form : List ℕ → Bool → Result Atom ScalarFault
  if_form t minus =
      if not (is_decimal t) then Err WrongKind else if is_exact digits t then units_atom digits range (signed minus (units_of digits t)) else Err OutOfRange

  read_units : (t : List ℕ) (minus : Bool) (n : ℕ) → IsUnits digits n t → if_form t minus ≡ units_atom digits range (signed minus n)
  read_units t minus n u =
      ap (λ b. if not b then Err WrongKind else if is_exact digits t then units_atom digits range (signed minus (units_of digits t)) else Err OutOfRange) u.form
      ∙ ap (λ b. if b then units_atom digits range (signed minus (units_of digits t)) else Err OutOfRange) u.exact ∙ ap (λ k. units_atom digits range (signed minus k)) u.value

  dec-form : (t : List ℕ) → dec_atom digits range t ≡ if_form (without_sign t) (has_minus t)
  dec-form t = refl

  pub dec_readable : (z : ℤ) → 1 ≤ digits → is_in_64 z ≡ true → dec_atom digits range (dec_text digits z) ≡ units_atom digits range z
  dec_readable (pos n) some e =
      let small : n < 2 ^ 64 = grind (arith, ints, nat_tests) in
      let u = point_text-IsUnits digits n some small in
      dec-form (point_text digits n) ∙ (λ i. if_form (u.sign i) (u.plus i)) ∙ read_units (point_text digits n) false n u
  dec_readable (negsuc n) some e =
      let small : suc n < 2 ^ 64 = grind (arith, ints, nat_tests) in
      let u = point_text-IsUnits digits (suc n) some small in
      dec-form (45 ∷ point_text digits (suc n)) ∙ read_units (point_text digits (suc n)) true (suc n) u
