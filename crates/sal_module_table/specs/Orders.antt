-- Numbers in an order in which the targets of each one's edges come before it.
use Rattle.std.specs.Prelude.{◌≡◌, ℕ, ◌<◌, Bool, true, ◌&&◌, ◌==◌, nat_lt, List, [], map, length, slice_index_or, Vec}
use Rattle.std.specs.List.{list_all}
use Rattle.std.specs.declared.alloc.Global.{Global}

abbrev pub rank_of : List ℕ → ℕ → ℕ
rank_of ranks i = slice_index_or ranks i 0

abbrev pub is_lower : List ℕ → ℕ → ℕ → ℕ → Bool
is_lower ranks count i k = nat_lt k count && nat_lt (rank_of ranks k) (rank_of ranks i)

-- The number is at its rank, and the targets of its edges at lower ones.
abbrev pub is_placed : List (List ℕ) → List ℕ → List ℕ → ℕ → Bool
is_placed edges ranks order i =
    (nat_lt (rank_of ranks i) (length edges) && slice_index_or order (rank_of ranks i) (length edges) == i)
    && list_all (is_lower ranks (length edges) i) (slice_index_or edges i [])

pub record IsOrdered (edges : List (List ℕ)) (ranks order : List ℕ) : Type 0 where
  pub count : length order ≡ length edges
  pub each : (i : ℕ) → i < length edges → is_placed edges ranks order i ≡ true

-- lists of numbers of 32 bits
abbrev pub rows : List (Vec ℕ Global) → List (List ℕ)
rows all = map (λ (v : Vec ℕ Global). v.items) all
