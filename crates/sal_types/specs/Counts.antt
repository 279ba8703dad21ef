-- How many entries each client has, as a map from clients to counts.
use Rattle.std.specs.Prelude.{ℕ, unwrap_or}
use Rattle.std.specs.Ordering.{nat_cmp}
use Rattle.std.specs.BTreeMap.{BTreeMap, get}

-- the client's count, 0 if the map has none
abbrev pub count_in : BTreeMap ℕ ℕ → ℕ → ℕ
count_in counts client = unwrap_or (get nat_cmp counts client) 0
