-- The tokens of a path text: names, blanks and texts in quotes. A definition takes the remaining text, and gives what it read
-- and the text after it. The offset of a fault is the length of the whole text minus that of the remaining text.
use Rattle.std.specs.Prelude.{ℕ, ◌-◌, Bool, not, ◌||◌, ◌==◌, if◌then◌else◌, List, [], ◌∷◌, length, take, drop, slice_index, Option, Some, None, Result, Ok, Err}
use Rattle.std.specs.List.{list_any, prefix_len, before_first, after_first}
use Rattle.sal_types.specs.Reading.{◌>>=◌, with_front}
use Rattle.sal_schema.specs.Valid.{starts_identifier, goes_on}
use Rattle.sal_pathtext.specs.declared.fault.PathTextFault.{PathTextFault}
use Rattle.sal_pathtext.specs.declared.fault.PathTextFault.TheVariants.{BadText}
pub use Rattle.sal_json.specs.Patterns.{Text}

-- a value and the text after it, or the first fault
abbrev pub Read : Type 0 → Type 0
Read A = Result (A × Text) PathTextFault

-- a name: its module, if the text has it, and the identifier
abbrev pub Name : Type 0
Name = Option (List ℕ) × List ℕ

-- the first byte, or 0 at the end
abbrev pub first : Text → ℕ
first t = slice_index t 0

abbrev pub is_empty : Text → Bool
is_empty t = length t == 0

-- space and tab
abbrev pub is_blank : ℕ → Bool
is_blank c = c == 32 || c == 9

-- after the blanks at the front
abbrev pub after_blanks : Text → Text
after_blanks t = drop (prefix_len is_blank t) t

-- the length of the identifier at the front, if one begins there (RFC 7950 section 6.2)
abbrev pub word_len : Text → ℕ
word_len t = prefix_len goes_on t

abbrev pub is_double_quote : ℕ → Bool
is_double_quote c = c == 34

module _ (whole : Text) where
  -- the byte offset of the remaining text
  abbrev pub place : Text → ℕ
  place t = length whole - length t

  abbrev pub bad_text : {A : Type 0} → Text → Result A PathTextFault
  bad_text t = Err (BadText (place t))

  -- this byte
  abbrev pub expected : ℕ → Text → Result Text PathTextFault
  expected c t = if first t == c then Ok (drop 1 t) else bad_text t

  abbrev pub identifier : Text → Read (List ℕ)
  identifier t = if starts_identifier (first t) then Ok (take (word_len t) t, drop (word_len t) t) else bad_text t

  -- an identifier, or a module's name and an identifier with a colon between them
  unfoldable pub name : Text → Read Name
  name t = do
    (word, after) ← identifier t
    if first after == 58 then (do
      (own, rest) ← identifier (drop 1 after)
      Ok ((Some word, own), rest))
        else Ok ((None, word), after)

  -- the text before the closing single quote; two such quotes denote one
  unfoldable pub single : Text → Read (List ℕ)
  single [] = bad_text []
  single (c ∷ []) = if c == 39 then Ok ([], []) else bad_text []
  single (c ∷ d ∷ t) =
      if not (c == 39) then with_front (c ∷ []) (single (d ∷ t))
      else if d == 39 then with_front (39 ∷ []) (single t)
      else Ok ([], d ∷ t)

  -- the text before the closing double quote
  abbrev pub double : Text → Read (List ℕ)
  double t = if list_any is_double_quote t then Ok (before_first is_double_quote t, after_first is_double_quote t) else bad_text []

  -- a text in quotes
  abbrev pub quoted : Text → Read (List ℕ)
  quoted t = if first t == 39 then single (drop 1 t) else if first t == 34 then double (drop 1 t) else bad_text t

  -- the value of a predicate's key: blanks, `=`, blanks and a text in quotes
  unfoldable pub said : Text → Read (List ℕ)
  said t = expected 61 (after_blanks t) >>= λ value. quoted (after_blanks value)

  -- the end of a predicate
  abbrev pub closed : Text → Result Text PathTextFault
  closed t = expected 93 (after_blanks t)
