-- Marks of the numbers of a list.
use Rattle.std.specs.Prelude.{◌≡◌, ◌<◌, ◌==◌, ℕ, Bool, false, List, length, slice_index_or}
use Rattle.std.specs.List.{list_any}

-- Each mark says whether its number is in the list.
abbrev pub IsMarked : List Bool → List ℕ → Type 0
IsMarked marks numbers = (k : ℕ) → k < length marks → slice_index_or marks k false ≡ list_any (λ j. j == k) numbers
