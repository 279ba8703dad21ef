-- The order on the first line of a report: its numbers, divided by any bytes that are no digits.
use Rattle.std.specs.Prelude.{ℕ, ◌+◌, ◌-◌, ◌*◌, List, [], ◌∷◌, ◌++◌, Option, None, Some, if◌then◌else◌, min, nat_eq, unwrap_or}
use Rattle.std.specs.Char.{is_ascii_digit}
use Rattle.std.specs.List.{before_first, fold}
use Rattle.sal_draw.specs.Acts.{option_list}
use Rattle.sal_picture.specs.declared.order.Reading.{Reading as CodeReading}

-- the numbers so far, and the one that is being read
pub record Reading : Type 0 where
  pub done : List ℕ
  pub word : Option ℕ

-- one more digit; no client has the greatest number
abbrev pub with_digit : ℕ → ℕ → ℕ
with_digit n digit = min 4294967295 (10 * n + digit)

-- the number that is being read ends
abbrev pub ended : Reading → Reading
ended r = record { done = r.done ++ option_list r.word; word = None }

abbrev pub read_byte : Reading → ℕ → Reading
read_byte r b = if is_ascii_digit b then record { done = r.done; word = Some (with_digit (unwrap_or r.word 0) (b - 48)) } else ended r

-- the numbers in a line
abbrev pub order_of : List ℕ → List ℕ
order_of line = (ended (fold read_byte (record { done = []; word = None }) line)).done

abbrev pub first_line : List ℕ → List ℕ
first_line text = before_first (λ b. nat_eq b 10) text

-- ---- for the code

abbrev pub reading_of : CodeReading → Reading
reading_of r = record { done = r.done.items; word = r.word }
