-- An input of two parts, divided by its first zero byte.
use Rattle.std.specs.Prelude.{ℕ, ◌+◌, List, take, drop, Option, option_map, position, nat_eq}

-- the bytes before that one, and those after it
pub record Parted : Type 0 where
  pub first : List ℕ
  pub second : List ℕ

-- cut around the byte at this index
abbrev pub cut_at : List ℕ → ℕ → Parted
cut_at bytes k = record { first = take k bytes; second = drop (k + 1) bytes }

-- none if no byte is zero
abbrev pub parted : List ℕ → Option Parted
parted bytes = option_map (cut_at bytes) (position (λ b. nat_eq b 0) bytes)
