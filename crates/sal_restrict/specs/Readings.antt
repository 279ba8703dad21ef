-- Bounds in the code: a number of 128 bits, or the digits of a larger one.
use Rattle.std.specs.Prelude.{◌≡◌, ℕ, ◌+◌, ◌*◌, ◌<◌, ℤ, Bool, true, false, ◌||◌, ◌==◌, List, map, drop, slice_index, IsTrue, FitsSigned}
use Rattle.std.specs.Int.{w128}
use Rattle.std.specs.Ordering.{nat_cmp}
use Rattle.std.specs.declared.cmp.Ordering.{Ordering}
use Rattle.std.specs.List.{list_all, prefix_len, All}
use Rattle.std.specs.Char.{is_ascii_digit}
use Rattle.sal_restrict.specs.declared.ranges.Part.{Part}
use Rattle.sal_restrict.specs.declared.bound.Magnitude.{Magnitude}
use Rattle.sal_restrict.specs.declared.bound.Bound.{Bound}
use Rattle.sal_restrict.specs.declared.bound.Bound.TheVariants.{Small, Large}
use Rattle.sal_restrict.specs.declared.span.Span.{Span}
use Rattle.sal_restrict.specs.Bounds.{decimal, signed}

-- digits without leading zeros
abbrev pub without_zeros : List ℕ → List ℕ
without_zeros t = drop (prefix_len (λ c. c == 48) t) t

-- the number in units, of which `scale` are one whole
abbrev pub size_of : ℕ → Magnitude → ℕ
size_of scale m = decimal m.whole.now * scale + m.fraction

-- digits that do not begin with 0, and a fraction below one whole
pub record IsNormal (scale : ℕ) (m : Magnitude) : Type 0 where
  pub digits : IsTrue (list_all is_ascii_digit m.whole.now)
  pub first : (slice_index m.whole.now 0 == 48) ≡ false
  pub fraction : m.fraction < scale

-- the order of the values of these digits, if they do not begin with 0
abbrev pub AreOrdered : Ordering → List ℕ → List ℕ → Type 0
AreOrdered order a b = IsTrue (list_all is_ascii_digit a) → IsTrue (list_all is_ascii_digit b) → (slice_index a 0 == 48) ≡ false → (slice_index b 0 == 48) ≡ false
    → order ≡ nat_cmp (decimal a) (decimal b)

abbrev pub number_of : ℕ → Bound → ℤ
number_of scale (Small number) = number
number_of scale (Large negative magnitude) = signed negative (size_of scale magnitude)

-- exactly the numbers that fit 128 bits are small
pub record IsLarge (scale : ℕ) (negative : Bool) (magnitude : Magnitude) : Type 0 where
  pub normal : IsNormal scale magnitude
  pub past : FitsSigned w128 (signed negative (size_of scale magnitude)) → ⊥

abbrev pub IsRead : ℕ → Bound → Type 0
IsRead scale (Small number) = FitsSigned w128 number
IsRead scale (Large negative magnitude) = IsLarge scale negative magnitude

abbrev pub part_of : ℕ → Span → Part
part_of scale span = record { low = number_of scale span.low; high = number_of scale span.high }

abbrev pub parts_of : ℕ → List Span → List Part
parts_of scale spans = map (part_of scale) spans

abbrev pub IsSpanRead : ℕ → Span → Type 0
IsSpanRead scale span = (IsRead scale span.low) × (IsRead scale span.high)

abbrev pub AreRead : ℕ → List Span → Type 0
AreRead scale spans = All (IsSpanRead scale) spans

abbrev pub is_large : Bound → Bool
is_large (Small number) = false
is_large (Large negative magnitude) = true

abbrev pub is_span_large : Span → Bool
is_span_large span = is_large span.low || is_large span.high
