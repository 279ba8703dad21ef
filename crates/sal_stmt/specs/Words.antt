-- The bytes of YANG text, and unquoted strings (RFC 7950 sections 6.1.2, 6.1.3 and 6.2).
use Rattle.std.specs.Prelude.{ℕ, suc, ◌+◌, Bool, false, not, ◌&&◌, ◌||◌, ◌==◌, nat_lt, if◌then◌else◌, List, [], ◌∷◌, length, take, drop, slice_index, codes}
use Rattle.std.specs.List.{list_all, prefix_len}
use Rattle.std.specs.Char.{is_ascii_alphabetic, is_ascii_alphanumeric}
use Prim.Native.String.{String}

-- the remaining bytes
abbrev pub Text : Type 0
Text = List ℕ

abbrev pub is_among : ℕ → List ℕ → Bool
is_among c [] = false
is_among c (d ∷ []) = c == d
is_among c (d ∷ e ∷ rest) = c == d || is_among c (e ∷ rest)

-- the byte is one of these
infix 60 ◌∈◌
abbrev pub ◌∈◌ : ℕ → String → Bool
c ∈ s = is_among c (codes s)

-- the first byte, or 0 at the end
abbrev pub first : Text → ℕ
first t = slice_index t 0

abbrev pub is_empty : Text → Bool
is_empty t = length t == 0

-- the text begins with these two bytes
abbrev pub starts_with : ℕ → ℕ → Text → Bool
starts_with c d t = slice_index t 0 == c && slice_index t 1 == d

-- space, tab, carriage return and line feed
abbrev pub is_blank : ℕ → Bool
is_blank c = ((c == 32 || c == 9) || c == 13) || c == 10

-- the other control characters, which no text may have
abbrev pub is_control : ℕ → Bool
is_control c = nat_lt c 32 && not (is_blank c)

-- `//`, `/*` and `*/`
abbrev pub starts_line_comment : Text → Bool
starts_line_comment t = starts_with 47 47 t

abbrev pub starts_block_comment : Text → Bool
starts_block_comment t = starts_with 47 42 t

abbrev pub ends_block_comment : Text → Bool
ends_block_comment t = starts_with 42 47 t

-- An unquoted string ends before white space, a control character, a quote, `;`, a brace, and `//`, `/*` or `*/`.
abbrev pub ends_word : Text → Bool
ends_word t =
    ((((is_blank (first t) || is_control (first t)) || first t ∈ "\"';{}") || starts_line_comment t) || starts_block_comment t) || ends_block_comment t

unfoldable pub word_len : Text → ℕ
word_len [] = 0
word_len (c ∷ t) = if ends_word (c ∷ t) then 0 else suc (word_len t)

-- the longest unquoted string at the front, and the text after it
abbrev pub word : Text → Text
word t = take (word_len t) t

abbrev pub after_word : Text → Text
after_word t = drop (word_len t) t

abbrev pub starts_identifier : ℕ → Bool
starts_identifier c = is_ascii_alphabetic c || c == 95

abbrev pub continues_identifier : ℕ → Bool
continues_identifier c = ((is_ascii_alphanumeric c || c == 95) || c == 45) || c == 46

-- a letter or `_`, and then letters, digits, `_`, `-` and `.`
abbrev pub is_identifier : List ℕ → Bool
is_identifier w = starts_identifier (first w) && list_all continues_identifier w

abbrev pub colon_at : List ℕ → ℕ
colon_at w = prefix_len (λ c. not (c == 58)) w

-- an identifier, or two of them joined by `:`
unfoldable pub is_keyword : List ℕ → Bool
is_keyword w =
    if nat_lt (colon_at w) (length w)
    then is_identifier (take (colon_at w) w) && is_identifier (drop (colon_at w + 1) w)
    else is_identifier w
