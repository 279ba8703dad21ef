-- The forms of the command line.
use Rattle.std.specs.Prelude.{ℕ, ◌+◌, ◌-◌, ◌*◌, ◌^◌, ◌≤◌, ⊤, Bool, true, false, not, ◌&&◌, List, [], ◌∷◌, Option, None, Some, codes, if◌then◌else◌, nat_eq, nat_le, nat_lt, option_and_then, option_map}
use Rattle.std.specs.Char.{is_ascii_digit}
use Rattle.std.specs.List.{list_all}
use Rattle.sal_script.specs.Json.{text_eq}
use Rattle.sal_command.specs.declared.words.Form.{Form}
use Rattle.sal_command.specs.declared.words.Form.TheVariants.{Run, Lint, Text, Load, Feed, Help, Version}
use Rattle.sal_command.specs.declared.words.TextForm.{TextForm}
use Rattle.sal_command.specs.declared.words.TextForm.TheVariants.{Sim, Schema, Owner, Export, Follow, Draw, Audit}
use Rattle.sal_draw_script.specs.declared.rows.Range.{Range}

-- ---- numbers

-- a digit alone, or one that is no zero before others
abbrev pub starts_well : List ℕ → Bool
starts_well [] = false
starts_well (c ∷ []) = true
starts_well (c ∷ d ∷ word) = not (nat_eq c 48)

-- decimal digits without a sign, and without a zero before other digits
abbrev pub is_plain : List ℕ → Bool
is_plain word = starts_well word && list_all is_ascii_digit word

-- the number of digits after those before
abbrev pub read_on : ℕ → List ℕ → ℕ
read_on n [] = n
read_on n (c ∷ word) = read_on (10 * n + (c - 48)) word

-- the number of 32 bits that digits say
abbrev pub value_of : List ℕ → Option ℕ
value_of word = if nat_lt (read_on 0 word) (2 ^ 32) then Some (read_on 0 word) else None

abbrev pub plain_value : List ℕ → Option ℕ
plain_value word = if is_plain word then value_of word else None

-- the number, if it is within these limits
abbrev pub within : ℕ → ℕ → ℕ → Option ℕ
within least most n = if nat_le least n && nat_le n most then Some n else None

-- the number within these limits that the word is in decimal
abbrev pub number_of : ℕ → ℕ → List ℕ → Option ℕ
number_of least most word = option_and_then (within least most) (plain_value word)

-- ---- forms

-- the entries from one index of the log to another
abbrev pub range_of : ℕ → ℕ → Range
range_of from to = record { from = from; to = to }

-- a form whose text depends on its input alone
abbrev pub text_form_named : List ℕ → Option TextForm
text_form_named word =
    if text_eq word (codes "sim") then Some Sim
    else (if text_eq word (codes "schema") then Some Schema
    else (if text_eq word (codes "owner") then Some Owner
    else (if text_eq word (codes "export") then Some Export
    else (if text_eq word (codes "follow") then Some Follow
    else (if text_eq word (codes "draw") then Some (Draw (range_of 0 1000000))
    else (if text_eq word (codes "audit") then Some Audit else None))))))

-- the form of a single word
abbrev pub form_named : List ℕ → Option Form
form_named word =
    if text_eq word (codes "run") then Some Run
    else (if text_eq word (codes "lint") then Some Lint
    else (if text_eq word (codes "--help") then Some Help
    else (if text_eq word (codes "--version") then Some Version else option_map Text (text_form_named word))))

-- a load of 1 to 10,000 rounds, whose values begin after a number of at most 65,536
abbrev pub load_of : List ℕ → List ℕ → Option Form
load_of rounds start = option_and_then (λ n. option_map (Load n) (number_of 0 65536 start)) (number_of 1 10000 rounds)

-- 1 to 100,000 notifications through a feed in which at most 1 to 4,096 wait
abbrev pub feed_of : List ℕ → List ℕ → Option Form
feed_of notes capacity = option_and_then (λ n. option_map (Feed n) (number_of 1 4096 capacity)) (number_of 1 100000 notes)

-- the entries from an index of at most 1,000,000 to one that is not before it
abbrev pub draw_of : List ℕ → List ℕ → Option Form
draw_of from to = option_and_then (λ n. option_map (λ m. Text (Draw (range_of n m))) (number_of n 1000000 to)) (number_of 0 1000000 from)

-- the form of a word with two numbers
abbrev pub numbered : List ℕ → List ℕ → List ℕ → Option Form
numbered word first second =
    if text_eq word (codes "load") then load_of first second
    else (if text_eq word (codes "feed") then feed_of first second
    else (if text_eq word (codes "draw") then draw_of first second else None))

abbrev pub form_of : List (List ℕ) → Option Form
form_of (word ∷ []) = form_named word
form_of (word ∷ first ∷ second ∷ []) = numbered word first second
form_of words = None

-- the numbers of a load and of a feed are within their limits
abbrev pub IsWithin : Form → Type 0
IsWithin (Load rounds start) = (rounds ≤ 10000) × (start ≤ 65536)
IsWithin (Feed notes capacity) = (notes ≤ 100000) × (1 ≤ capacity) × (capacity ≤ 4096)
IsWithin form = ⊤
