-- Parts of ranges.
use Rattle.std.proofs.Common.{◌≡◌, ℕ, zero, suc, ◌-◌, ◌<◌, ◌^◌, Some, Err, ℤ, pos, negsuc, ◌≤ℤ◌, int_le, FitsSigned, Bool, true, false, ◌&&◌, ◌||◌, List, [], ◌∷◌, length, get_or, refl, ap, sym, ◌∙◌, inl, inr, arith}
use Rattle.std.proofs.lemmas.Int.{ints, by_lt_z}
use Rattle.std.proofs.lemmas.Bool.{cases_Bool, both_ways, and_parts, and_left, and_right, or_cases}
use Rattle.std.proofs.lemmas.List.Elements.{All-head, All-tail}
use Rattle.std.specs.Int.{w128}
use Rattle.std.specs.List.{list_all, list_any}
use Rattle.sal_restrict.specs.declared.ranges.Part.{Part}
use Rattle.sal_restrict.specs.declared.bound.Bound.{Bound}
use Rattle.sal_restrict.specs.declared.bound.Bound.TheVariants.{Small, Large}
use Rattle.sal_restrict.specs.declared.span.Span.{Span}
use Rattle.sal_restrict.specs.Ranges.{is_below, is_ascending, holds, covers, least, greatest, outer}
use Rattle.sal_restrict.specs.Readings.{number_of, IsRead, IsSpanRead, AreRead, part_of, parts_of, is_large, is_span_large}
use Rattle.sal_restrict.specs.Words.{is_trimmed}
use Rattle.sal_restrict.specs.RangeTexts.{parts, read_ranges}
use Rattle.sal_restrict.specs.declared.fault.RangeFault.TheVariants.{Wider}
use Rattle.sal_restrict.proofs.Splits.{texts}
use Rattle.sal_restrict.proofs.Numbers.{is_in, is_in-bounds, le_test, lt_test, lt_passes, none_below, is_ascending-tail, covers-holds}

greatest-cons : (first : Part) (parts : List Part) (n : ℕ) (d : Part) → length parts ≡ n → greatest (first ∷ parts) ≡ (get_or (first ∷ parts) n d).high
greatest-cons first [] zero d e = refl
greatest-cons first [] (suc n) d e = absurd (omega arith)
greatest-cons first (next ∷ parts) zero d e = absurd (omega arith)
greatest-cons first (next ∷ parts) (suc n) d e = greatest-cons next parts n d (omega arith)

-- the greatest number is that of the last part
pub greatest-last : (parts : List Part) (d : Part) → 0 < length parts → greatest parts ≡ (get_or parts (length parts - 1) d).high
greatest-last [] d some = absurd (omega arith)
greatest-last (first ∷ parts) d some = greatest-cons first parts (length (first ∷ parts) - 1) d (omega arith)

pub least-first : (parts : List Part) (d : Part) → 0 < length parts → least parts ≡ (get_or parts 0 d).low
least-first [] d some = absurd (omega arith)
least-first (first ∷ parts) d some = refl

either_part : (b : Bool) → (b || false) ≡ true → b ≡ true
either_part true e = refl
either_part false e = e

-- ---- from the least number to the greatest

above_least : (parts : List Part) (n : ℤ) → is_ascending parts ≡ true → holds parts n ≡ true → least parts ≤ℤ n
above_least [] n order held = cc
above_least (part ∷ parts) n order held = by_lt_z n part.low
    (λ less. let no = none_below (part ∷ parts) n order (lt_passes n part.low less) in absurd (both_ways (holds (part ∷ parts) n) no held))
    (λ more. more)

-- a later part ends higher
high-greatest : (part : Part) (parts : List Part) → is_ascending (part ∷ parts) ≡ true → part.high ≤ℤ greatest (part ∷ parts)
high-greatest part [] order = omega (arith, ints)
high-greatest part (next ∷ parts) order =
    let (some, rest) = and_parts (int_le part.low part.high) (is_below part.high (next ∷ parts) && is_ascending (next ∷ parts)) order in
    let (before, after) = and_parts (is_below part.high (next ∷ parts)) (is_ascending (next ∷ parts)) rest in
    let less = lt_test part.high next.low before in
    let long = le_test next.low next.high (and_parts (int_le next.low next.high) (is_below next.high parts && is_ascending parts) after).0 in
    let more = high-greatest next parts after in
    omega (arith, ints)

greatest-rest : (part next : Part) (parts : List Part) → greatest (part ∷ next ∷ parts) ≡ greatest (next ∷ parts)
greatest-rest part next parts = refl

below_greatest : (parts : List Part) (n : ℤ) → is_ascending parts ≡ true → holds parts n ≡ true → n ≤ℤ greatest parts
below_greatest [] n order held = cc
below_greatest (part ∷ []) n order held = let (low, high) = is_in-bounds n part (either_part (is_in n part) held) in high
below_greatest (part ∷ next ∷ parts) n order held = elim (or_cases (is_in n part) (holds (next ∷ parts) n) held) [
  | inl here ↦ let (low, high) = is_in-bounds n part here in let most = high-greatest part (next ∷ parts) order in omega (arith, ints)
  | inr later ↦ below_greatest (next ∷ parts) n (is_ascending-tail part (next ∷ parts) order) later
]

-- ---- numbers that 128 bits do not hold

fits_between : (n low high : ℤ) → FitsSigned w128 low → FitsSigned w128 high → low ≤ℤ n → n ≤ℤ high → FitsSigned w128 n
fits_between (pos n) low (pos h) fl fh l u = record { sfits = let a = fh.sfits in omega (arith, ints) }
fits_between (pos n) low (negsuc h) fl fh l u = absurd (omega (arith, ints))
fits_between (negsuc n) (negsuc a) high fl fh l u = record { sfits = let b = fl.sfits in omega (arith, ints) }
fits_between (negsuc n) (pos a) high fl fh l u = absurd (omega (arith, ints))

-- ascending parts between two numbers of 128 bits hold no others
pub held_fits : (parts : List Part) (n : ℤ) → is_ascending parts ≡ true → FitsSigned w128 (least parts) → FitsSigned w128 (greatest parts) → holds parts n ≡ true → FitsSigned w128 n
held_fits parts n order fl fh held = fits_between n (least parts) (greatest parts) fl fh (above_least parts n order held) (below_greatest parts n order held)

large_past : (scale : ℕ) (bound : Bound) → IsRead scale bound → is_large bound ≡ true → FitsSigned w128 (number_of scale bound) → ⊥
large_past scale (Small n) read e fits = cc
large_past scale (Large negative magnitude) read e fits = read.past fits

-- such parts do not hold a part with a large bound
large_not_covered : (scale : ℕ) (span : Span) (within : List Part) → IsSpanRead scale span → is_span_large span ≡ true → is_ascending within ≡ true
    → FitsSigned w128 (least within) → FitsSigned w128 (greatest within) → number_of scale span.low ≤ℤ number_of scale span.high → covers within (part_of scale span) ≡ false
large_not_covered scale span within read large order fl fh some = elim (cases_Bool (covers within (part_of scale span))) [
  | inl e ↦
      let low = held_fits within (number_of scale span.low) order fl fh (covers-holds within (part_of scale span) e (number_of scale span.low) (omega (arith, ints)) some) in
      let high = held_fits within (number_of scale span.high) order fl fh (covers-holds within (part_of scale span) e (number_of scale span.high) some (omega (arith, ints))) in
      elim (or_cases (is_large span.low) (is_large span.high) large) [
        | inl l ↦ absurd (large_past scale span.low read.0 l low)
        | inr h ↦ absurd (large_past scale span.high read.1 h high)
      ]
  | inr e ↦ e
]

pub large_none_covered : (scale : ℕ) (spans : List Span) (within : List Part) → AreRead scale spans → list_any is_span_large spans ≡ true → is_ascending within ≡ true
    → FitsSigned w128 (least within) → FitsSigned w128 (greatest within) → is_ascending (parts_of scale spans) ≡ true → list_all (covers within) (parts_of scale spans) ≡ false
large_none_covered scale [] within read large order fl fh ascending = cc
large_none_covered scale (span ∷ spans) within read large order fl fh ascending =
    let some = (and_parts (int_le (number_of scale span.low) (number_of scale span.high)) (is_below (number_of scale span.high) (parts_of scale spans) && is_ascending (parts_of scale spans)) ascending).0 in
    elim (or_cases (is_span_large span) (list_any is_span_large spans) large) [
      | inl here ↦ and_left _ _ (large_not_covered scale span within (All-head (IsSpanRead scale) span spans read) here order fl fh (le_test (number_of scale span.low) (number_of scale span.high) some))
      | inr later ↦ and_right _ _ (large_none_covered scale spans within (All-tail (IsSpanRead scale) span spans read) later order fl fh (is_ascending-tail (part_of scale span) (parts_of scale spans) ascending))
    ]

-- ---- ranges that only narrow

pub held_within : (within parts : List Part) (n : ℤ) → list_all (covers within) parts ≡ true → holds parts n ≡ true → holds within n ≡ true
held_within within [] n all held = cc
held_within within (part ∷ parts) n all held =
    let (here, rest) = and_parts (covers within part) (list_all (covers within) parts) all in
    elim (or_cases (is_in n part) (holds parts n) held) [
      | inl e ↦ let (low, high) = is_in-bounds n part e in covers-holds within part here n low high
      | inr e ↦ held_within within parts n rest e
    ]

-- a text with a bound that 128 bits do not hold
pub wider-by_large : (t : List ℕ) (within : List Part) (digits : ℕ) (bounds : Part) (spans : List Span) → is_trimmed t ≡ true → bounds ≡ outer within
    → parts digits bounds (texts t) ≡ Some (parts_of (10 ^ digits) spans) → AreRead (10 ^ digits) spans → list_any is_span_large spans ≡ true
    → is_ascending within ≡ true → FitsSigned w128 (least within) → FitsSigned w128 (greatest within) → is_ascending (parts_of (10 ^ digits) spans) ≡ true
    → read_ranges t within digits ≡ Err Wider
wider-by_large t within digits bounds spans trimmed whole some read large order fl fh ascending =
    let all = ap (λ o. parts digits o (texts t)) (sym whole) ∙ some in
    let none = large_none_covered (10 ^ digits) spans within read large order fl fh ascending in
    rw (trimmed, all, ascending, none) refl
