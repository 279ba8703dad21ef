-- What digits write.
use Rattle.std.proofs.Common.{◌≡◌, ℕ, zero, suc, ◌+◌, ◌-◌, ◌*◌, ◌<◌, ◌≤◌, ◌^◌, ◌==◌, nat_lt, Bool, true, false, List, [], ◌∷◌, length, drop, fold, slice_index, refl, ap, subst, inl, inr, sym, ◌∙◌, arith}
use Rattle.std.proofs.Math.Nat.{pow-suc, pow-le-pow_right, mul-le-mul_right, mul-lt-mul_of_pos_right, one-le-pow}
use Rattle.std.proofs.lemmas.Bool.{cases_Bool, cases_order, and_parts}
use Rattle.std.proofs.lemmas.Bool.Decides.{nat_tests}
use Rattle.std.proofs.lemmas.Nat.{pow-add}
use Rattle.std.specs.List.{list_all, prefix_len}
use Rattle.std.specs.Char.{is_ascii_digit}
use Rattle.std.specs.Ordering.{nat_cmp, ordering_then}
use Rattle.std.specs.declared.cmp.Ordering.{Ordering}
use Rattle.std.specs.declared.cmp.Ordering.TheVariants.{Less, Equal, Greater}
use Rattle.std.specs.Cmp.Lexicographic.{slice_cmp}
use Rattle.sal_restrict.specs.Bounds.{decimal}
use Rattle.sal_restrict.specs.Readings.{without_zeros}

abbrev pub step : ℕ → ℕ → ℕ
step n c = 10 * n + (c - 48)

-- ten times as much, before the next digit
one_more : (n d p x : ℕ) → (10 * n + d) * p + x ≡ n * (p * 10) + (d * p + x)
one_more n d p x = omega arith

-- digits after a number
pub fold-digits : (n : ℕ) (t : List ℕ) → fold step n t ≡ n * 10 ^ length t + decimal t
fold-digits n [] = omega arith
fold-digits n (c ∷ t) =
    let here = fold-digits (10 * n + (c - 48)) t in
    let rest = fold-digits (10 * 0 + (c - 48)) t in
    let more = one_more n (c - 48) (10 ^ length t) (decimal t) in
    let power = pow-suc 10 (length t) in
    rw power (omega arith)

pub decimal-cons : (c : ℕ) (t : List ℕ) → decimal (c ∷ t) ≡ (c - 48) * 10 ^ length t + decimal t
decimal-cons c t = let no : 10 * 0 + (c - 48) ≡ c - 48 = omega arith in subst (λ n. fold step (10 * 0 + (c - 48)) t ≡ n * 10 ^ length t + decimal t) no (fold-digits (10 * 0 + (c - 48)) t)

is_digit-bounds : (c : ℕ) → is_ascii_digit c ≡ true → (48 ≤ c) × (c ≤ 57)
is_digit-bounds c e = grind (arith, nat_tests)

-- d is less than ten, and x less than p
below_ten : (d p x : ℕ) → d ≤ 9 → x < p → d * p + x < p * 10
below_ten d p x h less = let a = mul-le-mul_right p h in omega arith

pub decimal-below : (t : List ℕ) → list_all is_ascii_digit t ≡ true → decimal t < 10 ^ length t
decimal-below [] e = omega arith
decimal-below (c ∷ t) e =
    let (here, rest) = and_parts (is_ascii_digit c) (list_all is_ascii_digit t) e in
    let digit = is_digit-bounds c here in
    let less = decimal-below t rest in
    rw (decimal-cons c t, pow-suc 10 (length t)) (below_ten (c - 48) (10 ^ length t) (decimal t) (omega arith) less)

is_zero : (c : ℕ) → (c == 48) ≡ true → c - 48 ≡ 0
is_zero c e = grind (arith, nat_tests)

pub one_first : (n : ℕ) → 1 + n ≡ suc n
one_first n = omega arith

without_zeros-zero : (c : ℕ) (t : List ℕ) → (c == 48) ≡ true → without_zeros (c ∷ t) ≡ without_zeros t
without_zeros-zero c t e = rw e (rw (one_first (prefix_len (λ c. c == 48) t)) refl)

none_of : (p x : ℕ) → 0 * p + x ≡ x
none_of p x = omega arith

-- zeros at the front write nothing
pub decimal-without_zeros : (t : List ℕ) → decimal (without_zeros t) ≡ decimal t
decimal-without_zeros [] = refl
decimal-without_zeros (c ∷ t) = elim (cases_Bool (c == 48)) [
  | inl e ↦ ap decimal (without_zeros-zero c t e) ∙ decimal-without_zeros t ∙ sym (decimal-cons c t ∙ ap (λ d. d * 10 ^ length t + decimal t) (is_zero c e) ∙ none_of (10 ^ length t) (decimal t))
  | inr e ↦ rw e refl
]

pub first-without_zeros : (t : List ℕ) → (slice_index (without_zeros t) 0 == 48) ≡ false
first-without_zeros [] = refl
first-without_zeros (c ∷ t) = elim (cases_Bool (c == 48)) [
  | inl e ↦ ap (λ u. slice_index u 0 == 48) (without_zeros-zero c t e) ∙ first-without_zeros t
  | inr e ↦ rw e e
]

pub digits-drop : (n : ℕ) (t : List ℕ) → list_all is_ascii_digit t ≡ true → list_all is_ascii_digit (drop n t) ≡ true
digits-drop zero t e = e
digits-drop (suc n) [] e = refl
digits-drop (suc n) (c ∷ t) e = digits-drop n t (and_parts (is_ascii_digit c) (list_all is_ascii_digit t) e).1

-- ---- the order of numbers that are written without zeros at their front

-- the one with fewer digits is less
pub shorter-less : (a b : List ℕ) → list_all is_ascii_digit a ≡ true → list_all is_ascii_digit b ≡ true → (slice_index b 0 == 48) ≡ false
    → length a < length b → decimal a < decimal b
shorter-less a [] ea eb first less = absurd (omega arith)
shorter-less a (c ∷ b) ea eb first less =
    let (here, rest) = and_parts (is_ascii_digit c) (list_all is_ascii_digit b) eb in
    let digit = is_digit-bounds c here in
    let some : 1 ≤ c - 48 = grind (arith, nat_tests) in
    let below = decimal-below a ea in
    let power : 10 ^ length a ≤ 10 ^ length b = pow-le-pow_right (omega arith) (omega arith) in
    let product = mul-le-mul_right (10 ^ length b) some in
    rw (decimal-cons c b) (omega arith)

-- of as many digits, the first that differ decide
digits_differ : (d e p x y : ℕ) → d < e → x < p → d * p + x < e * p + y
digits_differ d e p x y h less = let a : (d + 1) * p ≤ e * p = mul-le-mul_right p (omega arith) in omega arith

tied : (x y : ℕ) → x ≡ y → nat_cmp x y ≡ Equal
tied x y e = grind (arith, nat_tests)

pub lesser : (x y : ℕ) → x < y → nat_cmp x y ≡ Less
lesser x y h = grind (arith, nat_tests)

pub greater : (x y : ℕ) → y < x → nat_cmp x y ≡ Greater
greater x y h = grind (arith, nat_tests)

shifted : (k x y m n : ℕ) → m ≡ k + x → n ≡ k + y → nat_cmp x y ≡ nat_cmp m n
shifted k x y m n em en = grind (arith, nat_tests)

first_decides : (c d x y p q : ℕ) → p ≡ q → (48 ≤ c) × (c ≤ 57) → (48 ≤ d) × (d ≤ 57) → x < p → y < q → (o : Ordering) → o ≡ nat_cmp x y
    → (m n : ℕ) → m ≡ (c - 48) * p + x → n ≡ (d - 48) * q + y → ordering_then (nat_cmp c d) o ≡ nat_cmp m n
first_decides c d x y p q same dc dd lx ly o tie m n em en = elim (cases_order c d) [
  | inl e ↦
      let there : n ≡ (c - 48) * p + y = en ∙ (λ i. (sym e i - 48) * sym same i + y) in
      rw (tied c d e) (tie ∙ shifted ((c - 48) * p) x y m n em there)
  | inr (inl less) ↦
      let below = digits_differ (c - 48) (d - 48) p x y (omega arith) lx in
      let there : n ≡ (d - 48) * p + y = en ∙ (λ i. (d - 48) * sym same i + y) in
      rw (lesser c d less) (sym (lesser m n (omega arith)))
  | inr (inr more) ↦
      let below = digits_differ (d - 48) (c - 48) q y x (omega arith) ly in
      let here : m ≡ (c - 48) * q + x = em ∙ (λ i. (c - 48) * same i + x) in
      rw (greater c d more) (sym (greater m n (omega arith)))
]

pub slice_cmp-decimal : (a b : List ℕ) → list_all is_ascii_digit a ≡ true → list_all is_ascii_digit b ≡ true → length a ≡ length b
    → slice_cmp nat_cmp a b ≡ nat_cmp (decimal a) (decimal b)
slice_cmp-decimal [] [] ea eb same = refl
slice_cmp-decimal [] (d ∷ b) ea eb same = absurd (omega arith)
slice_cmp-decimal (c ∷ a) [] ea eb same = absurd (omega arith)
slice_cmp-decimal (c ∷ a) (d ∷ b) ea eb same =
    let (here, rest) = and_parts (is_ascii_digit c) (list_all is_ascii_digit a) ea in
    let (there, others) = and_parts (is_ascii_digit d) (list_all is_ascii_digit b) eb in
    let same' : length a ≡ length b = omega arith in
    first_decides c d (decimal a) (decimal b) (10 ^ length a) (10 ^ length b) (ap (λ n. 10 ^ n) same') (is_digit-bounds c here) (is_digit-bounds d there)
    (decimal-below a rest) (decimal-below b others) (slice_cmp nat_cmp a b) (slice_cmp-decimal a b rest others same')
    (decimal (c ∷ a)) (decimal (d ∷ b)) (decimal-cons c a) (decimal-cons d b)

-- the digits after a point are less than one
pub units_below : (x k n : ℕ) → k ≤ n → x < 10 ^ k → x * 10 ^ (n - k) < 10 ^ n
units_below x k n h less =
    let power : 10 ^ n ≡ 10 ^ k * 10 ^ (n - k) = ap (λ m. 10 ^ m) (omega arith) ∙ pow-add 10 k (n - k) in
    let some = one-le-pow (n - k) 10 (omega arith) in
    subst (λ m. x * 10 ^ (n - k) < m) (sym power) (mul-lt-mul_of_pos_right less some)

-- ---- the order of numbers with a point

pub order_of_lengths : (a b : List ℕ) → list_all is_ascii_digit a ≡ true → list_all is_ascii_digit b ≡ true
    → (slice_index a 0 == 48) ≡ false → (slice_index b 0 == 48) ≡ false → (nat_cmp (length a) (length b) ≡ Equal → ⊥)
    → nat_cmp (length a) (length b) ≡ nat_cmp (decimal a) (decimal b)
order_of_lengths a b da db fa fb other = elim (cases_order (length a) (length b)) [
  | inl e ↦ absurd (other (tied _ _ e))
  | inr (inl less) ↦ lesser _ _ less ∙ sym (lesser _ _ (shorter-less a b da db fb less))
  | inr (inr more) ↦ greater _ _ more ∙ sym (greater _ _ (shorter-less b a db da fa more))
]

abbrev pub first_or : Ordering → Bool → Bool
first_or Less b = true
first_or Equal b = b
first_or Greater b = false

pub by_wholes : (s m n x y : ℕ) → x < s → y < s → nat_lt (m * s + x) (n * s + y) ≡ first_or (nat_cmp m n) (nat_lt x y)
by_wholes s m n x y lx ly = elim (cases_order m n) [
  | inl e ↦
      let same : m * s ≡ n * s = ap (λ k. k * s) e in
      rw (tied m n e) (grind (arith, nat_tests))
  | inr (inl less) ↦ let below = digits_differ m n s x y less lx in rw (lesser m n less) (grind (arith, nat_tests))
  | inr (inr more) ↦ let below = digits_differ n m s y x more ly in rw (greater m n more) (grind (arith, nat_tests))
]
