-- The limits of a script.
use Rattle.std.specs.Prelude.{ℕ, Bool, ◌&&◌, ◌^◌, List, ◌++◌, length, nat_le, nat_lt}
use Rattle.std.specs.List.{flat_map, list_all, sum_by}

-- at most 16 clients with at most 60000 steps each
abbrev pub within_limits : {Step : Type 0} → List (List Step) → Bool
within_limits clients = nat_le (length clients) 16 && list_all (λ steps. nat_le (length steps) 60000) clients

-- at most 63 devices, so there are at most 64 domains
abbrev pub are_few : {Device : Type 0} → List Device → Bool
are_few devices = nat_le (length devices) 63

-- texts with fewer than 2^32 bytes together
abbrev pub are_short : List (List ℕ) → Bool
are_short texts = nat_lt (sum_by length texts) (2 ^ 32)

-- the texts of the first modules, then those of each upgrade
abbrev pub all_texts : List (List ℕ) → List (List (List ℕ)) → List (List ℕ)
all_texts modules upgrades = modules ++ flat_map (λ texts. texts) upgrades
