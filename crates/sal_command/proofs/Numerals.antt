-- Words of digits, as std reads them.
use Rattle.std.proofs.Common.{◌≡◌, ◌<◌, ◌^◌, ℕ, true, false, List, [], ◌∷◌, length, Result, Ok, Err, Some, None, if◌then◌else◌, nat_lt, rules, arith, refl, subst}
use Rattle.std.proofs.lemmas.Bool.{and_parts}
use Rattle.std.proofs.lemmas.Bool.Decides.{nat_tests}
use Rattle.std.proofs.lemmas.Str.Parse.{IsNumeralModel, numerals_by_fold, parse_digits}
use Rattle.std.specs.Char.{is_ascii_digit}
use Rattle.std.specs.List.{list_all}
use Rattle.std.specs.Result.{OkIff}
use Rattle.std.specs.Str.Parse.{ParsesUnsigned}
use Rattle.sal_command.specs.Words.{is_plain, read_on, starts_well, value_of}

own : IsNumeralModel (λ ds. list_all is_ascii_digit ds ≡ true) (read_on 0)
own = numerals_by_fold _ (search rules) read_on (search rules)

some : (word : List ℕ) → starts_well word ≡ true → 0 < length word
some [] e = absurd cc
some (c ∷ word) e = omega arith

-- the digits and their value, if this was read
abbrev Told : {E : Type 0} → List ℕ → Result ℕ E → Type 0
Told word r = OkIff r ((0 < length word) × (read_on 0 word < 2 ^ 32)) (read_on 0 word)

told : {E : Type 0} (word : List ℕ) (r : Result ℕ E) → ParsesUnsigned 32 10 word r → is_plain word ≡ true → Told word r
told word r parsed plain = parse_digits own 32 word r parsed (and_parts (starts_well word) (list_all is_ascii_digit word) plain).1

-- the value of plain digits
pub read_plain : {E : Type 0} (word : List ℕ) (n : ℕ) (r : Result ℕ E) → ParsesUnsigned 32 10 word r → r ≡ Ok n → is_plain word ≡ true → Some n ≡ value_of word
read_plain word n r parsed is plain =
    let gives : ((0 < length word) × (read_on 0 word < 2 ^ 32)) × (n ≡ read_on 0 word) = subst (Told word) is (told word r parsed plain) in
    let small : read_on 0 word < 2 ^ 32 = gives.0.1 in
    let low : nat_lt (read_on 0 word) (2 ^ 32) ≡ true = grind (arith, nat_tests, small) in
    rw (low, gives.1) refl

-- if nothing is read the number is too large
pub unread_plain : {E : Type 0} (word : List ℕ) (e : E) (r : Result ℕ E) → ParsesUnsigned 32 10 word r → r ≡ Err e → is_plain word ≡ true → None ≡ value_of word
unread_plain word e r parsed is plain =
    let fails : ((0 < length word) × (read_on 0 word < 2 ^ 32)) → ⊥ = subst (Told word) is (told word r parsed plain) in
    let many : 0 < length word = some word (and_parts (starts_well word) (list_all is_ascii_digit word) plain).0 in
    elim (nat_lt (read_on 0 word) (2 ^ 32)) as (λ b. nat_lt (read_on 0 word) (2 ^ 32) ≡ b → None ≡ (if b then Some (read_on 0 word) else None)) [
      | true ↦ λ low. let small : read_on 0 word < 2 ^ 32 = grind (arith, nat_tests, low) in absurd (fails (many, small))
      | false ↦ λ high. refl
    ] refl
