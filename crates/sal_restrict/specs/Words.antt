-- Separators and white space in the texts of ranges.
use Rattle.std.specs.Prelude.{ℕ, suc, ◌-◌, Bool, ◌||◌, ◌==◌, nat_eq, List, [], ◌∷◌, length, take, drop, if◌then◌else◌}
use Rattle.std.specs.List.{prefix_len, suffix_len, starts_with}
use lib.Pointwise.{pointwise}

-- two texts are the same
abbrev pub same : List ℕ → List ℕ → Bool
same a b = pointwise nat_eq a b

-- space, tab, carriage return and line feed
abbrev pub is_blank : ℕ → Bool
is_blank c = ((c == 32 || c == 9) || c == 13) || c == 10

abbrev pub without_blanks_before : List ℕ → List ℕ
without_blanks_before t = drop (prefix_len is_blank t) t

abbrev pub without_blanks_behind : List ℕ → List ℕ
without_blanks_behind t = take (length t - suffix_len is_blank t) t

-- without white space at both ends
abbrev pub trim : List ℕ → List ℕ
trim t = without_blanks_behind (without_blanks_before t)

abbrev pub is_trimmed : List ℕ → Bool
is_trimmed t = length (trim t) == length t

-- the offset of the first `word` in the text, or the text's length if it has none
abbrev pub place_of : List ℕ → List ℕ → ℕ
place_of word [] = 0
place_of word (c ∷ t) = if starts_with nat_eq (c ∷ t) word then 0 else suc (place_of word t)
