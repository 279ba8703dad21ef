-- The texts of a row: its label, as much of it as is shown, and the title that a browser shows over it.
use Rattle.std.specs.Prelude.{ℕ, suc, ◌+◌, ◌-◌, ◌&&◌, ◌||◌, not, Bool, false, List, [], ◌∷◌, ◌++◌, length, take, drop, codes, if◌then◌else◌, min, nat_eq, nat_le, nat_lt}
use Rattle.std.specs.List.{before_first, position_or_len}

-- ---- where a text can end

-- a byte of a name or a number: a letter, a digit, a dot, a hyphen, an underscore, or one of a character that is not ASCII
abbrev pub in_name : ℕ → Bool
in_name b = nat_le 97 b && nat_lt b 123 || (nat_le 65 b && nat_lt b 91 || (nat_le 48 b && nat_lt b 58 || (nat_le 128 b || (nat_eq b 45 || (nat_eq b 46 || nat_eq b 95)))))

-- a text can end between the bytes p and b, the byte at index i; or else where it could before
abbrev pub last_end : ℕ → ℕ → ℕ → ℕ → ℕ
last_end p b i end = if in_name p && in_name b then end else i

-- The number of bytes of a text that are kept: at most `room`, without a part of a name. `i` bytes are before it, the last of them p; they can end at
-- `end`.
abbrev pub kept : ℕ → ℕ → ℕ → ℕ → List ℕ → ℕ
kept room end i p [] = i
kept room end i p (b ∷ bs) = if nat_lt i room then kept room (last_end p b i end) (i + 1) b bs else last_end p b i end

-- two dots, if something is left out
abbrev pub dots : Bool → List ℕ
dots left_out = if left_out then codes ".." else []

abbrev pub cut_at : ℕ → List ℕ → List ℕ
cut_at n text = take n text ++ dots (nat_lt n (length text))

-- the front of a text that has room
abbrev pub cut : ℕ → List ℕ → List ℕ
cut room text = cut_at (kept room 0 0 0 text) text

-- ---- paths within a text

-- The index of the first path: its slash, after a space and a quotation mark. The number of bytes, if there is none. The bytes p and q are before the text.
abbrev pub path_from : ℕ → ℕ → List ℕ → ℕ
path_from p q [] = 0
path_from p q (b ∷ bs) = if nat_eq p 32 && (nat_eq q 34 && nat_eq b 47) then 0 else suc (path_from q b bs)

abbrev pub path_start : List ℕ → ℕ
path_start text = path_from 0 0 text

-- the number of bytes before a quotation mark
abbrev pub before_quote : List ℕ → ℕ
before_quote text = position_or_len (λ b. nat_eq b 34) text

-- the byte b after p is the first one of a step of a path, outside of the value of a key: a slash, or what follows on the name of a module
abbrev pub begins_step : Bool → ℕ → ℕ → Bool
begins_step quoted p b = not quoted && (nat_eq b 47 || nat_eq p 58)

-- whether what follows on the byte is within the value of a key
abbrev pub quoted_after : Bool → ℕ → Bool
quoted_after quoted b = if nat_eq b 39 then not quoted else quoted

-- The end of a path: the most steps that have room together, or else the last one. The byte p is before the rest, and `last` begins at its last step.
abbrev pub path_end : ℕ → Bool → ℕ → List ℕ → List ℕ → List ℕ
path_end most quoted p last [] = last
path_end most quoted p last (b ∷ bs) =
    if begins_step quoted p b then (if nat_le (length (b ∷ bs)) most then b ∷ bs else path_end most (quoted_after quoted b) b (b ∷ bs) bs)
    else path_end most (quoted_after quoted b) b last bs

-- the room that what follows on a path has: all of it if it is short, or else a quotation mark and two dots
abbrev pub room_behind : ℕ → ℕ
room_behind n = if nat_le n 13 then n else 3

abbrev pub with_end : List ℕ → List ℕ → List ℕ → List ℕ → List ℕ
with_end front path end behind = front ++ (dots (nat_lt (length end) (length path)) ++ (end ++ behind))

-- the room of a path between these texts
abbrev pub room_between : ℕ → List ℕ → List ℕ → ℕ
room_between room front behind = room - (length front + (2 + room_behind (length behind)))

abbrev pub short_between : ℕ → List ℕ → List ℕ → List ℕ → List ℕ
short_between room front path behind = with_end front path (path_end (room_between room front behind) false 0 path path) behind

abbrev pub short_from : ℕ → ℕ → ℕ → List ℕ → List ℕ
short_from room start n text = short_between room (take start text) (take n (drop start text)) (drop (start + n) text)

abbrev pub short_at : ℕ → ℕ → List ℕ → List ℕ
short_at room start text = short_from room start (before_quote (drop start text)) text

-- a text whose first path is its end alone, with two dots before it, if the whole has no room
abbrev pub short_path : ℕ → List ℕ → List ℕ
short_path room text = short_at room (path_start text) text

-- What is shown of a label: at most `room` bytes, and two dots where something is left out. Of a path the beginning is left out first, then what is at
-- the end of the label, and never a part of a name.
unfoldable pub shown : ℕ → List ℕ → List ℕ
shown room text = if nat_le (length text) room then text else cut room (short_path room text)

-- ---- labels and titles

-- the text before the first space
abbrev pub first_word : List ℕ → List ℕ
first_word text = before_first (λ b. nat_eq b 32) text

abbrev pub last_between : ℕ → ℕ → List ℕ → List ℕ
last_between from to text = take from text ++ (drop to text ++ take (to - from) (drop from text))

-- the index behind the quotation mark that ends the path
abbrev pub path_stop : ℕ → List ℕ → ℕ
path_stop start text = min (length text) (start + (before_quote (drop start text) + 1))

abbrev pub last_at : ℕ → List ℕ → List ℕ
last_at start text = last_between (start - 2) (path_stop start text) text

-- a reply whose first path is at its end: what happened there is before it
unfoldable pub path_last : List ℕ → List ℕ
path_last replied = last_at (path_start replied) replied

-- a step that is done is its own label, another one has its word and its reply
abbrev pub label_text : Bool → List ℕ → List ℕ → List ℕ
label_text ok step replied = if ok then step else first_word step ++ (codes ": " ++ path_last replied)

-- the full step and reply
abbrev pub title_text : List ℕ → List ℕ → List ℕ
title_text step replied = step ++ (codes " => " ++ replied)
