-- The place that the text of a fault of modules names: after `module` the module, the fault and the offset; after `build` the fault, the module and
-- the offset; before either perhaps `upgrade` and a number.
use Rattle.std.specs.Prelude.{ℕ, suc, ◌+◌, ◌-◌, ◌*◌, ◌^◌, ◌%◌, ◌==◌, Bool, not, ◌&&◌, List, [], ◌∷◌, Option, None, Some, codes, drop, fold, length, nat_eq, option_and_then, option_map, take, if◌then◌else◌}
use Rattle.std.specs.Char.{is_ascii_digit}
use Rattle.std.specs.List.{list_all, prefix_len, starts_with}
use Rattle.sal_lint.specs.declared.named.Named.{Named}

-- ---- words

-- no space
abbrev pub is_in_word : ℕ → Bool
is_in_word byte = not (byte == 32)

-- the text before the first space
abbrev pub word : List ℕ → List ℕ
word text = take (prefix_len is_in_word text) text

-- the text after the first space
abbrev pub after : List ℕ → List ℕ
after text = drop (prefix_len is_in_word text + 1) text

-- ---- numbers

-- a number with one more digit, modulo 2^32
abbrev pub with_digit : ℕ → ℕ → ℕ
with_digit n byte = (10 * n + (byte - 48)) % 2 ^ 32

-- the number of a word of digits
abbrev pub number_in : List ℕ → Option ℕ
number_in [] = None
number_in (byte ∷ bytes) = if list_all is_ascii_digit (byte ∷ bytes) then Some (fold with_digit 0 (byte ∷ bytes)) else None

-- ---- places

abbrev pub placed : Option ℕ → Option ℕ → Option Named
placed m at = option_and_then (λ m. option_map (λ at. record { «module» = m; at = at }) at) m

-- the text of the fault itself
abbrev pub without_upgrade : List ℕ → List ℕ
without_upgrade text = if starts_with nat_eq text (codes "upgrade ") then after (after text) else text

abbrev pub place_in : List ℕ → Option Named
place_in text =
    if starts_with nat_eq text (codes "module ") then placed (number_in (word (after text))) (number_in (word (after (after (after text)))))
    else (if starts_with nat_eq text (codes "build ") then placed (number_in (word (after (after text)))) (number_in (word (after (after (after text)))))
    else None)

-- none for a fault without an offset
abbrev pub named_in : List ℕ → Option Named
named_in text = place_in (without_upgrade text)
