-- Ranks of groupings: no path from one to another ascends.
use Rattle.std.specs.Prelude.{◌≡◌, ℕ, ◌<◌, Bool, true, false, List, [], length, slice_index_or, nat_le, nat_lt, Option, Some, None, Vec}
use Rattle.std.specs.declared.alloc.Global.{Global}
use Rattle.std.specs.List.{list_all}

-- no grouping has a lower rank than one that it names
abbrev pub IsRanked : List (List ℕ) → List ℕ → Type 0
IsRanked edges ranks = (g : ℕ) → g < length edges → list_all (λ k. nat_le (slice_index_or ranks k 0) (slice_index_or ranks g 0)) (slice_index_or edges g []) ≡ true

-- by their ranks, if there are any
abbrev pub is_below : Option (Vec ℕ Global) → ℕ → ℕ → Bool
is_below None used g = false
is_below (Some ranks) used g = nat_lt (slice_index_or ranks.items used 0) (slice_index_or ranks.items g 0)
