-- Texts of ranges within the numbers from -1000 to 1000 and from 2000 to 3000.
use Rattle.std.specs.Prelude.{◌≡◌, ℕ, ◌-◌, ℤ, pos, negsuc, List, [], ◌∷◌, Result, Ok, Err, map, codes}
use Prim.Native.String.{String}
use Rattle.sal_restrict.specs.declared.ranges.Part.{Part}
use Rattle.sal_restrict.specs.declared.fault.RangeFault.{RangeFault}
use Rattle.sal_restrict.specs.RangeTexts.{read_ranges}

abbrev pub minus : ℕ → ℤ
minus n = negsuc (n - 1)

abbrev pub part : ℤ → ℤ → Part
part low high = record { low = low; high = high }

abbrev pub within : List Part
within = part (minus 1000) (pos 1000) ∷ part (pos 2000) (pos 3000) ∷ []

-- the range of a text, of numbers with this many digits after the point
abbrev pub given : ℕ → String → Result (List Part) RangeFault
given digits text = read_ranges (codes text) within digits

-- each text gives the parts beside it
abbrev pub AreRanges : ℕ → List (String × List Part) → Type 0
AreRanges digits cases = map (λ (c : String × List Part). given digits c.0) cases ≡ map (λ (c : String × List Part). Ok c.1) cases

-- each text has this fault
abbrev pub AllFail : ℕ → RangeFault → List String → Type 0
AllFail digits fault texts = map (given digits) texts ≡ map (λ (text : String). Err fault) texts

-- whole numbers
abbrev pub whole : List (String × List Part)
whole =
    ("5", part (pos 5) (pos 5) ∷ [])
    ∷ ("-5..5", part (minus 5) (pos 5) ∷ [])
    ∷ ("-0..00", part (pos 0) (pos 0) ∷ [])
    ∷ ("min..1000|2000..max", part (minus 1000) (pos 1000) ∷ part (pos 2000) (pos 3000) ∷ [])
    ∷ ("min..1000|2500", part (minus 1000) (pos 1000) ∷ part (pos 2500) (pos 2500) ∷ [])
    ∷ ("min", part (minus 1000) (minus 1000) ∷ [])
    ∷ ("max..max", part (pos 3000) (pos 3000) ∷ [])
    ∷ ("1\t..\r\n2", part (pos 1) (pos 2) ∷ [])
    ∷ ("1|2 |3", part (pos 1) (pos 1) ∷ part (pos 2) (pos 2) ∷ part (pos 3) (pos 3) ∷ [])
    ∷ []

-- numbers outside, or in the gap
abbrev pub wider : List String
wider =
    "min..-1 | 1..max"
    ∷ "1001"
    ∷ "1000..2000"
    ∷ "-1001..0"
    ∷ "99999999999999999999999999999999999999999999"
    ∷ "-99999999999999999999999999999999999999999999..1"
    ∷ []

-- texts of another form, and parts out of order
abbrev pub no_ranges : List String
no_ranges =
    ""
    ∷ " 1"
    ∷ "1 "
    ∷ "1||2"
    ∷ "|1"
    ∷ "1|"
    ∷ "1.."
    ∷ "..1"
    ∷ "1...2"
    ∷ "1..2..3"
    ∷ "1 2"
    ∷ "+1"
    ∷ "--1"
    ∷ "- 1"
    ∷ "1.0"
    ∷ "Min"
    ∷ "0x1"
    ∷ "2..1"
    ∷ "1|1"
    ∷ "3..4|1..2"
    ∷ "max..min"
    ∷ "99999999999999999999999999999999999999999999..99999999999999999999999999999999999999999998"
    ∷ []

-- with one digit, with two and with eighteen after the point
abbrev pub tenths : List (String × List Part)
tenths =
    ("1..2", part (pos 10) (pos 20) ∷ [])
    ∷ ("1.5..2", part (pos 15) (pos 20) ∷ [])
    ∷ []

abbrev pub hundredths : List (String × List Part)
hundredths = ("-0.05..0.5", part (minus 5) (pos 50) ∷ []) ∷ []

abbrev pub finest : List (String × List Part)
finest = ("0.000000000000000005", part (pos 5) (pos 5) ∷ []) ∷ []

abbrev pub no_tenths : List String
no_tenths = "1." ∷ ".5" ∷ "1.55" ∷ []
