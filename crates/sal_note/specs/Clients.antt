-- The place of a client among others that ascend.
use Rattle.std.specs.Prelude.{ℕ, suc, Bool, ◌&&◌, List, [], ◌∷◌, length, if◌then◌else◌, nat_eq, nat_le, nat_lt, slice_index}

-- the place of the first that is not below it
abbrev pub first_from : ℕ → List ℕ → ℕ
first_from client [] = 0
first_from client (c ∷ cs) = if nat_le client c then 0 else suc (first_from client cs)

-- the client is at the place
abbrev pub stands_at : ℕ → ℕ → List ℕ → Bool
stands_at at client clients = nat_lt at (length clients) && nat_eq (slice_index clients at) client
