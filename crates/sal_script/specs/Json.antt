-- Parts of JSON data (RFC 8259), as lists.
use Rattle.std.specs.Prelude.{ℕ, ◌==◌, Bool, true, ◌&&◌, List, [], ◌∷◌, length, Option, None, Some, option_and_then, if◌then◌else◌, nat_lt}
use Rattle.std.specs.List.{list_any}
use Rattle.std.specs.Str.Lossy.{utf8_valid_len}
use Rattle.serde_json.specs.Data.{Data, Items, no_items, item, Members, no_members, member}
use Rattle.serde_json.specs.Find.{as_array, as_number, as_u64}
use Rattle.serde_json.specs.Read.{read}
pub use Rattle.sal_json.specs.Named.{text_eq}

abbrev pub list_of_items : Items → List Data
list_of_items no_items = []
list_of_items (item d ds) = d ∷ list_of_items ds

-- the values of an array, in order
abbrev pub list_of : Data → Option (List Data)
list_of d = option_and_then (λ items. Some (list_of_items items)) (as_array d)

-- every member has one of the names
abbrev pub all_named : List (List ℕ) → Members → Bool
all_named names no_members = true
all_named names (member k d ms) = list_any (text_eq k) names && all_named names ms

-- the number, if it is below the limit
abbrev pub below : ℕ → ℕ → Option ℕ
below limit n = if nat_lt n limit then Some n else None

-- a whole number below the limit
abbrev pub whole_below : ℕ → Data → Option ℕ
whole_below limit d = option_and_then (below limit) (option_and_then as_u64 (as_number d))

-- the data that bytes denote: they are text, and the text is JSON
abbrev pub data_of : List ℕ → Option Data
data_of bytes = if utf8_valid_len bytes == length bytes then read bytes else None
