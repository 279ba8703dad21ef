-- Lines and columns of a text.
use Rattle.std.specs.Prelude.{◌≡◌, ◌≤◌, ℕ, ◌+◌, List, fold, length, take, if◌then◌else◌, nat_eq}
use Rattle.std.specs.List.{count_by}
use Rattle.sal_lint.specs.declared.places.Place.{Place}
use Rattle.sal_lint.specs.declared.places.Spot.{Spot}

abbrev pub start : Place
start = record { line = 1; column = 1 }

-- the place after one more byte: a line feed begins the next line, any other byte takes one column
abbrev pub after : Place → ℕ → Place
after place byte = if nat_eq byte 10 then record { line = place.line + 1; column = 1 } else record { line = place.line; column = place.column + 1 }

-- the place of the byte at this offset: that after all bytes before it
abbrev pub place_of : List ℕ → ℕ → Place
place_of text at = fold after start (take at text)

-- ---- a law

-- The line is one more than the number of line feeds before the byte.
abbrev pub LinesAreCounted : Type 0
LinesAreCounted = (text : List ℕ) (at : ℕ) → (place_of text at).line ≡ 1 + count_by (λ byte. nat_eq byte 10) (take at text)

-- ---- functions

-- an offset of the text with its place
abbrev pub IsSpot : List ℕ → Spot → Type 0
IsSpot text spot = (spot.at ≤ length text) × (spot.place ≡ place_of text spot.at)
