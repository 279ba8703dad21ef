-- The order on the first line of a text, and its parser.
use Rattle.std.specs.Prelude.{◌≡◌, ◌↔◌, ℕ, ◌+◌, ◌*◌, ◌-◌, ◌%◌, ◌^◌, ◌<◌, All, List, [], ◌∷◌, ◌++◌, Option, None, Some, codes, decimal, drop, if◌then◌else◌, nat_eq}
use Rattle.std.specs.List.{flat_map, starts_with}

-- a space and a number
abbrev pub number : ℕ → List ℕ
number n = 32 ∷ decimal n

-- the line of an order
abbrev pub line_of : List ℕ → List ℕ
line_of order = codes "order" ++ (flat_map number order ++ (10 ∷ []))

-- the first line of a text is that of the order
abbrev pub Tells : List ℕ → List ℕ → Type 0
Tells text order = (rest : List ℕ) × (text ≡ line_of order ++ rest)

-- ---- the parser

-- the numbers up to the end of a line, with a space between two; n is the value of the first number so far
abbrev pub read_from : ℕ → List ℕ → List ℕ
read_from n [] = []
read_from n (b ∷ bs) = if nat_eq b 10 then n ∷ [] else (if nat_eq b 32 then n ∷ read_from 0 bs else read_from ((10 * n + (b - 48)) % 2 ^ 32) bs)

-- those of a line after its word, if a space follows; else none
abbrev pub read_line : List ℕ → List ℕ
read_line [] = []
read_line (b ∷ bs) = if nat_eq b 32 then read_from 0 bs else []

-- the numbers on a first line after the word `order`, each modulo 2^32; for a line of any form
abbrev pub numbers_in : List ℕ → List ℕ
numbers_in text = read_line (drop 5 text)

-- The order on a text's first line: the numbers there, if the text begins with exactly their line.
abbrev pub told_order : List ℕ → Option (List ℕ)
told_order text = if starts_with nat_eq text (line_of (numbers_in text)) then Some (numbers_in text) else None

-- ---- the meaning

-- there is an order exactly if the first line is that of an order with numbers below 2^32
abbrev pub OrdersAreTold : Type 0
OrdersAreTold = (text order : List ℕ) → ((told_order text ≡ Some order) ↔ (Tells text order × All (λ n. n < 2 ^ 32) order))
