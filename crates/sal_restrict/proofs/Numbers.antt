-- Parts that hold numbers from one to another.
use Rattle.std.proofs.Common.{◌≡◌, ℕ, zero, suc, ◌+◌, ℤ, pos, negsuc, ◌-◌, ◌+ℤ◌, ◌≤ℤ◌, ◌<ℤ◌, int_lt, int_le, Bool, true, false, ◌&&◌, ◌⊎◌, List, [], ◌∷◌, drop, if◌then◌else◌, refl, ap, sym, ◌∙◌, inl, inr, arith}
use Rattle.std.proofs.lemmas.Int.{ints, by_lt_z}
use Rattle.std.proofs.lemmas.Bool.{cases_Bool, and_parts, and_from, or_cases, or_left, or_right, or_from, not_from_false}
use Rattle.std.specs.List.{list_all, prefix_len}
use Rattle.sal_restrict.specs.declared.ranges.Part.{Part}
use Rattle.sal_restrict.specs.Ranges.{is_below, is_ascending, holds, goes_on, covers}
use Rattle.sal_restrict.proofs.Digits.{one_first}

-- ---- tests of numbers

pub le_test : (a b : ℤ) → int_le a b ≡ true → a ≤ℤ b
le_test a b e = grind (arith, ints)

pub lt_test : (a b : ℤ) → int_lt a b ≡ true → a <ℤ b
lt_test a b e = grind (arith, ints)

pub le_passes : (a b : ℤ) → a ≤ℤ b → int_le a b ≡ true
le_passes a b h = grind (arith, ints)

pub le_fails : (a b : ℤ) → int_le a b ≡ false → b <ℤ a
le_fails a b e = grind (arith, ints)

pub lt_passes : (a b : ℤ) → a <ℤ b → int_lt a b ≡ true
lt_passes a b h = grind (arith, ints)

abbrev pub is_in : ℤ → Part → Bool
is_in n part = int_le part.low n && int_le n part.high

pub is_in-from : (n : ℤ) (part : Part) → part.low ≤ℤ n → n ≤ℤ part.high → is_in n part ≡ true
is_in-from n part l h = and_from _ _ (le_passes part.low n l) (le_passes n part.high h)

pub is_in-bounds : (n : ℤ) (part : Part) → is_in n part ≡ true → (part.low ≤ℤ n) × (n ≤ℤ part.high)
is_in-bounds n part e = let (l, h) = and_parts (int_le part.low n) (int_le n part.high) e in (le_test part.low n l, le_test n part.high h)

-- ---- all numbers of a part

pub is_in-below : (n : ℤ) (part : Part) → n <ℤ part.low → is_in n part ≡ false
is_in-below n part h = elim (cases_Bool (is_in n part)) [
  | inl e ↦ let bounds = is_in-bounds n part e in absurd (omega (arith, ints))
  | inr e ↦ e
]

pub is_in-past : (n : ℤ) (part : Part) → part.high <ℤ n → is_in n part ≡ false
is_in-past n part h = elim (cases_Bool (is_in n part)) [
  | inl e ↦ let bounds = is_in-bounds n part e in absurd (omega (arith, ints))
  | inr e ↦ e
]

below_too : (parts : List Part) (m n : ℤ) → is_below m parts ≡ true → n <ℤ m → is_below n parts ≡ true
below_too [] m n below less = refl
below_too (part ∷ parts) m n below less = let here = lt_test m part.low below in lt_passes n part.low (omega (arith, ints))

either : {b : Bool} → (b ≡ true) ⊎ (b ≡ true) → b ≡ true
either (inl e) = e
either (inr e) = e

goes_on_at : (all : List Part) (numbers part : Part) (n : ℤ) → part.high ≡ n → numbers.low ≤ℤ n → n <ℤ numbers.high → goes_on all numbers part ≡ true → holds all (n +ℤ pos 1) ≡ true
goes_on_at all numbers part n same low high goes =
    let first : int_le numbers.low part.high ≡ true = le_passes numbers.low part.high (omega (arith, ints)) in
    let second : int_lt part.high numbers.high ≡ true = lt_passes part.high numbers.high (omega (arith, ints)) in
    ap (λ m. holds all (m +ℤ pos 1)) (sym same) ∙ (rw (first, second) at goes)

goes_on-from : (all : List Part) (numbers part : Part) → ((n : ℤ) → numbers.low ≤ℤ n → n ≤ℤ numbers.high → holds all n ≡ true) → goes_on all numbers part ≡ true
goes_on-from all numbers part held = elim (cases_Bool (int_le numbers.low part.high && int_lt part.high numbers.high)) [
  | inl e ↦
      let (low, high) = and_parts (int_le numbers.low part.high) (int_lt part.high numbers.high) e in
      let l = le_test numbers.low part.high low in
      let h = lt_test part.high numbers.high high in
      or_right _ _ (held (part.high +ℤ pos 1) (omega (arith, ints)) (omega (arith, ints)))
  | inr e ↦ or_left _ _ (not_from_false _ e)
]

-- the number after a covered one is covered too
next_held : (parts all : List Part) (numbers : Part) (n : ℤ) → numbers.low ≤ℤ n → n <ℤ numbers.high → list_all (goes_on all numbers) parts ≡ true
    → holds parts n ≡ true → (holds parts (n +ℤ pos 1) ≡ true) ⊎ (holds all (n +ℤ pos 1) ≡ true)
next_held [] all numbers n low high goes held = cc
next_held (part ∷ parts) all numbers n low high goes held =
    let (here, rest) = and_parts (goes_on all numbers part) (list_all (goes_on all numbers) parts) goes in
    elim (or_cases (is_in n part) (holds parts n) held) [
      | inl inside ↦
          let (l, h) = is_in-bounds n part inside in
          by_lt_z n part.high
          (λ less. inl (or_left _ _ (is_in-from (n +ℤ pos 1) part (omega (arith, ints)) (omega (arith, ints)))))
          (λ more. inr (goes_on_at all numbers part n (omega (arith, ints)) low high here))
      | inr later ↦ elim (next_held parts all numbers n low high rest later) [
        | inl one ↦ inl (or_right _ _ one)
        | inr one ↦ inr one
      ]
    ]

held_upto : (parts : List Part) (numbers : Part) (k : ℕ) (n : ℤ) → n ≡ numbers.low +ℤ pos k → n ≤ℤ numbers.high → covers parts numbers ≡ true → holds parts n ≡ true
held_upto parts numbers zero n e high whole =
    let (first, goes) = and_parts (holds parts numbers.low) (list_all (goes_on parts numbers) parts) whole in
    let same : n ≡ numbers.low = omega (arith, ints) in
    ap (holds parts) same ∙ first
held_upto parts numbers (suc k) n e high whole =
    let (first, goes) = and_parts (holds parts numbers.low) (list_all (goes_on parts numbers) parts) whole in
    let before = numbers.low +ℤ pos k in
    let here = held_upto parts numbers k before refl (omega (arith, ints)) whole in
    let next : n ≡ before +ℤ pos 1 = omega (arith, ints) in
    ap (holds parts) next ∙ either (next_held parts parts numbers before (omega (arith, ints)) (omega (arith, ints)) goes here)

gap : (a b : ℤ) → a ≤ℤ b → (k : ℕ) × (b ≡ a +ℤ pos k)
gap (pos a) (pos b) h = (b - a, omega (arith, ints))
gap (negsuc a) (pos b) h = (suc a + b, omega (arith, ints))
gap (negsuc a) (negsuc b) h = (a - b, omega (arith, ints))
gap (pos a) (negsuc b) h = absurd (omega (arith, ints))

-- what it means that the parts hold all of these numbers
pub covers-holds : (parts : List Part) (numbers : Part) → covers parts numbers ≡ true → (n : ℤ) → numbers.low ≤ℤ n → n ≤ℤ numbers.high → holds parts n ≡ true
covers-holds parts numbers whole n low high = let (k, e) = gap numbers.low n low in held_upto parts numbers k n e high whole

all_go_on : (parts all : List Part) (numbers : Part) → numbers.low ≤ℤ numbers.high → ((n : ℤ) → numbers.low ≤ℤ n → n ≤ℤ numbers.high → holds all n ≡ true)
    → list_all (goes_on all numbers) parts ≡ true
all_go_on [] all numbers some held = refl
all_go_on (part ∷ parts) all numbers some held = and_from _ _ (goes_on-from all numbers part held) (all_go_on parts all numbers some held)

pub covers-from : (parts : List Part) (numbers : Part) → numbers.low ≤ℤ numbers.high → ((n : ℤ) → numbers.low ≤ℤ n → n ≤ℤ numbers.high → holds parts n ≡ true)
    → covers parts numbers ≡ true
covers-from parts numbers some held = and_from _ _ (held numbers.low (omega (arith, ints)) some) (all_go_on parts parts numbers some held)

-- ---- ascending parts

-- a number before the first part is in none
pub none_below : (parts : List Part) (n : ℤ) → is_ascending parts ≡ true → is_below n parts ≡ true → holds parts n ≡ false
none_below [] n order below = refl
none_below (part ∷ parts) n order below =
    let (some, rest) = and_parts (int_le part.low part.high) (is_below part.high parts && is_ascending parts) order in
    let (before, after) = and_parts (is_below part.high parts) (is_ascending parts) rest in
    let here = lt_test n part.low below in
    let length = le_test part.low part.high some in
    or_from _ _ (is_in-below n part here) (none_below parts n after (below_too parts part.high n before (omega (arith, ints))))

pub is_ascending-tail : (part : Part) (parts : List Part) → is_ascending (part ∷ parts) ≡ true → is_ascending parts ≡ true
is_ascending-tail part parts order =
    (and_parts (is_below part.high parts) (is_ascending parts) (and_parts (int_le part.low part.high) (is_below part.high parts && is_ascending parts) order).1).1

pub is_ascending-drop : (n : ℕ) (parts : List Part) → is_ascending parts ≡ true → is_ascending (drop n parts) ≡ true
is_ascending-drop zero parts order = order
is_ascending-drop (suc n) [] order = refl
is_ascending-drop (suc n) (part ∷ parts) order = is_ascending-drop n parts (is_ascending-tail part parts order)

-- a part that ends before a number does not hold it
pub holds-past : (part : Part) (parts : List Part) (n : ℤ) → part.high <ℤ n → holds (part ∷ parts) n ≡ holds parts n
holds-past part parts n past = rw (is_in-past n part past) refl

-- ---- up to which number the parts cover

-- The numbers before `next` are covered, and from `next` on only the parts of `rest` count.
pub record IsHeldUpto (parts rest : List Part) (numbers : Part) (next : ℤ) : Type 0 where
  pub start : numbers.low ≤ℤ next
  pub stop : next ≤ℤ numbers.high
  pub held : (n : ℤ) → numbers.low ≤ℤ n → n <ℤ next → holds parts n ≡ true
  pub left : (n : ℤ) → next ≤ℤ n → holds parts n ≡ holds rest n

pub none_held : (parts : List Part) (numbers : Part) → numbers.low ≤ℤ numbers.high → IsHeldUpto parts parts numbers numbers.low
none_held parts numbers some = record {
  start = omega (arith, ints);
  stop = some;
  held = λ n low less. absurd (omega (arith, ints));
  left = λ n from. refl;
}

-- the next number is in no part
pub covers-gap : (parts rest : List Part) (numbers : Part) (next : ℤ) → IsHeldUpto parts rest numbers next → holds rest next ≡ false → covers parts numbers ≡ false
covers-gap parts rest numbers next was none = elim (cases_Bool (covers parts numbers)) [
  | inl e ↦
      let here : holds parts next ≡ true = covers-holds parts numbers e next was.start was.stop in
      let there : holds parts next ≡ holds rest next = was.left next (omega (arith, ints)) in
      cc
  | inr e ↦ e
]

-- the last number is in the next part
pub covers-rest : (parts rest : List Part) (numbers part : Part) (next : ℤ) → IsHeldUpto parts (part ∷ rest) numbers next → part.low ≤ℤ next → numbers.high ≤ℤ part.high
    → covers parts numbers ≡ true
covers-rest parts rest numbers part next was low high =
    let some : numbers.low ≤ℤ numbers.high = let a = was.start in let b = was.stop in omega (arith, ints) in
    covers-from parts numbers some (λ n l h. by_lt_z n next (was.held n l)
    (λ from. was.left n from ∙ or_left _ _ (is_in-from n part (omega (arith, ints)) (omega (arith, ints)))))

-- the next number is past the next part
pub held_past : (parts rest : List Part) (numbers part : Part) (next : ℤ) → IsHeldUpto parts (part ∷ rest) numbers next → part.high <ℤ next
    → IsHeldUpto parts rest numbers next
held_past parts rest numbers part next was past = record {
  start = was.start;
  stop = was.stop;
  held = was.held;
  left = λ n from. was.left n from ∙ holds-past part rest n (omega (arith, ints));
}

-- the next part holds the next number
pub held_more : (parts rest : List Part) (numbers part : Part) (next : ℤ) → IsHeldUpto parts (part ∷ rest) numbers next → part.low ≤ℤ next → next ≤ℤ part.high
    → part.high <ℤ numbers.high → IsHeldUpto parts rest numbers (part.high +ℤ pos 1)
held_more parts rest numbers part next was low high less = record {
  start = let a = was.start in omega (arith, ints);
  stop = omega (arith, ints);
  held = λ n l h. by_lt_z n next (was.held n l) (λ from. was.left n from ∙ or_left _ _ (is_in-from n part (omega (arith, ints)) (omega (arith, ints))));
  left = λ n from. was.left n (omega (arith, ints)) ∙ holds-past part rest n (omega (arith, ints));
}

-- whether the next part holds the next number or ends before it
pub held_on : (parts rest : List Part) (numbers part : Part) (next : ℤ) → IsHeldUpto parts (part ∷ rest) numbers next → part.low ≤ℤ next → part.high <ℤ numbers.high
    → IsHeldUpto parts rest numbers (if int_le next part.high then part.high +ℤ pos 1 else next)
held_on parts rest numbers part next was low less = elim (cases_Bool (int_le next part.high)) [
  | inl e ↦ rw e (held_more parts rest numbers part next was low (le_test next part.high e) less)
  | inr e ↦ rw e (held_past parts rest numbers part next was (le_fails next part.high e))
]

-- ---- parts that end before the numbers

abbrev pub ended : ℤ → List Part → ℕ
ended number parts = prefix_len (λ (part : Part). int_lt part.high number) parts

holds-ended : (parts : List Part) (low n : ℤ) → low ≤ℤ n → holds parts n ≡ holds (drop (ended low parts) parts) n
holds-ended [] low n h = refl
holds-ended (part ∷ parts) low n h = elim (cases_Bool (int_lt part.high low)) [
  | inl e ↦
      let past = lt_test part.high low e in
      rw e (rw (one_first (ended low parts)) (holds-past part parts n (omega (arith, ints)) ∙ holds-ended parts low n h))
  | inr e ↦ rw e refl
]

same_test : (b c : Bool) → (b ≡ true → c ≡ true) → (c ≡ true → b ≡ true) → b ≡ c
same_test true c f g = sym (f refl)
same_test false true f g = g refl
same_test false false f g = refl

-- they make no difference
pub covers-ended : (parts : List Part) (low : ℤ) (numbers : Part) → low ≤ℤ numbers.low → numbers.low ≤ℤ numbers.high
    → covers parts numbers ≡ covers (drop (ended low parts) parts) numbers
covers-ended parts low numbers from some =
    let rest = drop (ended low parts) parts in
    same_test (covers parts numbers) (covers rest numbers)
    (λ e. covers-from rest numbers some (λ n l h. sym (holds-ended parts low n (omega (arith, ints))) ∙ covers-holds parts numbers e n l h))
    (λ e. covers-from parts numbers some (λ n l h. holds-ended parts low n (omega (arith, ints)) ∙ covers-holds rest numbers e n l h))

at_most : (a b : ℤ) → ((n : ℤ) → n <ℤ a → n <ℤ b) → a ≤ℤ b
at_most a b h = by_lt_z b a (λ less. let itself = h b less in absurd (omega (arith, ints))) (λ fine. fine)

-- nor for later ones
pub all_covered-ended : (list parts : List Part) (low : ℤ) → is_ascending list ≡ true → ((n : ℤ) → n <ℤ low → is_below n list ≡ true)
    → list_all (covers parts) list ≡ list_all (covers (drop (ended low parts) parts)) list
all_covered-ended [] parts low order from = refl
all_covered-ended (numbers ∷ list) parts low order from =
    let (some, rest) = and_parts (int_le numbers.low numbers.high) (is_below numbers.high list && is_ascending list) order in
    let (before, after) = and_parts (is_below numbers.high list) (is_ascending list) rest in
    let length = le_test numbers.low numbers.high some in
    let here : low ≤ℤ numbers.low = at_most low numbers.low (λ n less. lt_test n numbers.low (from n less)) in
    let first = covers-ended parts low numbers here length in
    let others = all_covered-ended list parts low after (λ n less. below_too list numbers.high n before (omega (arith, ints))) in
    λ i. first i && others i
