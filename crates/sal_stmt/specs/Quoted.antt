-- The value of a double-quoted string: its lines, trimmed, with their escapes replaced (RFC 7950 section 6.1.3).
-- White space before a line break is removed, and that at the start of a later line up to and including the column of the opening
-- quote. Trimming comes before escapes, and CR LF is read as LF.
use Rattle.std.specs.Prelude.{ℕ, ◌+◌, ◌-◌, Bool, not, ◌&&◌, ◌||◌, ◌==◌, nat_lt, nat_le, if◌then◌else◌, List, [], ◌∷◌, ◌++◌, length, take, drop, slice_index, replicate, sum_by}
use Rattle.std.specs.List.{slice_split, prefix_len, suffix_len}
use Rattle.sal_stmt.specs.Words.{◌∈◌}

-- Columns count characters, and eight for a tab. A byte from 128 to 191 continues a character (UTF-8).
abbrev pub columns : ℕ → ℕ
columns c = if c == 9 then 8 else if nat_le 128 c && nat_lt c 192 then 0 else 1

-- the number of columns of the last line of a text
abbrev pub last_line_len : List ℕ → ℕ
last_line_len text = suffix_len (λ c. not (c == 10)) text

unfoldable pub last_columns : List ℕ → ℕ
last_columns text = sum_by columns (drop (length text - last_line_len text) text)

abbrev pub is_space : ℕ → Bool
is_space c = c == 32 || c == 9

abbrev pub is_escape : ℕ → Bool
is_escape d = d ∈ "nt\"\\"

-- the character of an escape, by its letter
abbrev pub escaped : ℕ → ℕ
escaped d = if d == 110 then 10 else if d == 116 then 9 else d

abbrev pub plain_len : List ℕ → ℕ
plain_len t = prefix_len (λ c. not (c == 92)) t

unfoldable pub unescape : List ℕ → List ℕ
unescape [] = []
unescape (c ∷ []) = c ∷ []
unescape (c ∷ d ∷ t) = if c == 92 && is_escape d then escaped d ∷ unescape t else c ∷ unescape (d ∷ t)

-- without the spaces and tabs at its end
abbrev pub blank_end_len : List ℕ → ℕ
blank_end_len t = suffix_len is_space t

abbrev pub trim_end : List ℕ → List ℕ
trim_end t = take (length t - blank_end_len t) t

-- Without its leading spaces and tabs, up to this width. A tab counts as eight; the part of it beyond the width stays as spaces.
unfoldable pub without_indent : ℕ → List ℕ → List ℕ
without_indent width [] = []
without_indent width (c ∷ t) =
    if width == 0 then c ∷ t
    else if c == 32 then without_indent (width - 1) t
    else if not (c == 9) then c ∷ t
    else if nat_le 8 width then without_indent (width - 8) t
    else replicate (8 - width) 32 ++ t

-- without the carriage return of its line break
abbrev pub without_return : List ℕ → List ℕ
without_return t = if slice_index t (length t - 1) == 13 then take (length t - 1) t else t

abbrev pub line_len : List ℕ → ℕ
line_len t = prefix_len (λ c. not (c == 10)) t

-- The lines from one on: the first of them with this indentation, the later ones with that.
unfoldable pub join_lines : ℕ → ℕ → List (List ℕ) → List ℕ
join_lines indent later [] = []
join_lines indent later (line ∷ []) = unescape (without_indent indent line)
join_lines indent later (line ∷ next ∷ lines) =
    unescape (without_indent indent (trim_end (without_return line))) ++ 10 ∷ join_lines later later (next ∷ lines)

-- The value of the text between the quotes. `column` is the number of columns before the opening quote.
unfoldable pub content : ℕ → List ℕ → List ℕ
content column raw = join_lines 0 (column + 1) (slice_split (λ c. c == 10) raw)
