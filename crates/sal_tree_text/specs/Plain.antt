-- Bytes that denote themselves in a JSON text.
use Rattle.std.specs.Prelude.{ℕ, Bool, not, ◌&&◌, ◌==◌, nat_le}

-- no control character, no quote and no backslash
abbrev pub is_plain : ℕ → Bool
is_plain c = nat_le 32 c && (not (c == 34) && not (c == 92))
