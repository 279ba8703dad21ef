-- Ranges of whole numbers.
use Rattle.std.specs.Prelude.{ℤ, pos, ◌+ℤ◌, int_lt, int_le, Bool, true, not, ◌&&◌, ◌||◌, List, [], ◌∷◌}
use Rattle.std.specs.List.{list_any, list_all}
use Rattle.sal_restrict.specs.declared.ranges.Part.{Part}

-- the number is less than the first of these parts
abbrev pub is_below : ℤ → List Part → Bool
is_below number [] = true
is_below number (part ∷ parts) = int_lt number part.low

-- each part ends no lower than it begins, and before the next one
abbrev pub is_ascending : List Part → Bool
is_ascending [] = true
is_ascending (part ∷ parts) = int_le part.low part.high && (is_below part.high parts && is_ascending parts)

-- a part contains the number
abbrev pub holds : List Part → ℤ → Bool
holds parts number = list_any (λ (part : Part). int_le part.low number && int_le number part.high) parts

-- the least and the greatest number of ascending parts
abbrev pub least : List Part → ℤ
least [] = pos 0
least (part ∷ parts) = part.low

abbrev pub greatest : List Part → ℤ
greatest [] = pos 0
greatest (part ∷ []) = part.high
greatest (part ∷ next ∷ parts) = greatest (next ∷ parts)

-- from the least to the greatest
abbrev pub outer : List Part → Part
outer parts = record { low = least parts; high = greatest parts }

-- if the part ends within these numbers, and before the last of them, the parts contain the next number too
abbrev pub goes_on : List Part → Part → Part → Bool
goes_on parts numbers part =
    not (int_le numbers.low part.high && int_lt part.high numbers.high) || holds parts (part.high +ℤ pos 1)

-- the parts contain each of these numbers
abbrev pub covers : List Part → Part → Bool
covers parts numbers = holds parts numbers.low && list_all (goes_on parts numbers) parts
