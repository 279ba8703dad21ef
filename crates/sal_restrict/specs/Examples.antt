-- Ranges for the examples.
use Rattle.std.specs.Prelude.{ℕ, pos, negsuc, List, [], ◌∷◌, Result, codes}
use Prim.Native.String.{String}
use Rattle.sal_restrict.specs.declared.ranges.Part.{Part}
use Rattle.sal_restrict.specs.declared.fault.RangeFault.{RangeFault}
use Rattle.sal_restrict.specs.RangeTexts.{read_ranges}

-- from one number to another
abbrev pub upto : ℕ → ℕ → Part
upto low high = record { low = pos low; high = pos high }

-- from the number below minus n to another
abbrev pub below_minus : ℕ → ℕ → Part
below_minus n high = record { low = negsuc n; high = pos high }

-- the range of a text within the numbers from 1 to 4096
abbrev pub ports : String → Result (List Part) RangeFault
ports text = read_ranges (codes text) (upto 1 4096 ∷ []) 0

-- the range of a text with two fraction digits within the numbers from -500.00 to 500.00
abbrev pub prices : String → Result (List Part) RangeFault
prices text = read_ranges (codes text) (below_minus 49999 50000 ∷ []) 2
