-- A written order is read as that order.
use Rattle.std.proofs.Common.{◌≡◌, ℕ, zero, suc, ◌+◌, ◌*◌, ◌-◌, ◌%◌, ◌^◌, ◌<◌, ◌≤◌, List, [], ◌∷◌, ◌++◌, drop, Bool, true, false, codes, decimal, flat_map, refl, ap, sym, ◌∙◌, arith, rules, append_assoc, if◌then◌else◌, nat_eq}
use Rattle.std.specs.List.{All}
use Rattle.std.specs.Str.{all_ascii_digits}
use Rattle.std.specs.Char.{is_ascii_digit}
use Rattle.std.proofs.lemmas.Bool.{and_parts, ne_eqb}
use Rattle.std.proofs.lemmas.Fmt.{digits_decimal, digits_value-decimal}
use Rattle.std.proofs.lemmas.List.Elements.{All-cons, All-head, All-nil, All-tail}
use Rattle.std.proofs.lemmas.Str.Parse.{IsNumeralModel, numerals_by_fold}
use Rattle.sal_order.specs.FirstLines.{Tells, line_of, number, numbers_in, read_from, read_line}

-- ---- the numbers that are read have 32 bits

below : (bs : List ℕ) (n : ℕ) → n < 2 ^ 32 → All (λ k. k < 2 ^ 32) (read_from n bs)
below [] n small = All-nil (λ k. k < 2 ^ 32)
below (b ∷ bs) n small = by (below bs 0 (omega arith)) (below bs ((10 * n + (b - 48)) % 2 ^ 32) (omega arith)) (nat_eq b 10) (nat_eq b 32)
  where
    by : All (λ k. k < 2 ^ 32) (read_from 0 bs) → All (λ k. k < 2 ^ 32) (read_from ((10 * n + (b - 48)) % 2 ^ 32) bs) → (ended parted : Bool)
        → All (λ k. k < 2 ^ 32) (if ended then n ∷ [] else (if parted then n ∷ read_from 0 bs else read_from ((10 * n + (b - 48)) % 2 ^ 32) bs))
    by next more true parted = All-cons (λ k. k < 2 ^ 32) n [] small (All-nil (λ k. k < 2 ^ 32))
    by next more false true = All-cons (λ k. k < 2 ^ 32) n (read_from 0 bs) small next
    by next more false false = more

pub line-below : (bs : List ℕ) → All (λ k. k < 2 ^ 32) (read_line bs)
line-below [] = All-nil (λ k. k < 2 ^ 32)
line-below (b ∷ bs) = by (nat_eq b 32)
  where
    by : (spaced : Bool) → All (λ k. k < 2 ^ 32) (if spaced then read_from 0 bs else [])
    by true = below bs 0 (omega arith)
    by false = All-nil (λ k. k < 2 ^ 32)

-- ---- digits

-- the value of digits, after the number that was read before
abbrev read_on : ℕ → List ℕ → ℕ
read_on n [] = n
read_on n (c ∷ cs) = read_on (10 * n + (c - 48)) cs

own : IsNumeralModel (λ ds. all_ascii_digits ds ≡ true) (read_on 0)
own = numerals_by_fold _ (search rules) read_on (search rules)

-- a number does not shrink by further digits
grows : (ds : List ℕ) (m : ℕ) → m ≤ read_on m ds
grows [] m = omega arith
grows (d ∷ ds) m = let more = grows ds (10 * m + (d - 48)) in omega (arith, more)

-- a byte that ends no number
on : (n b : ℕ) (bs : List ℕ) → nat_eq b 10 ≡ false → nat_eq b 32 ≡ false → read_from n (b ∷ bs) ≡ read_from ((10 * n + (b - 48)) % 2 ^ 32) bs
on n b bs h k = λ i. if h i then n ∷ [] else (if k i then n ∷ read_from 0 bs else read_from ((10 * n + (b - 48)) % 2 ^ 32) bs)

-- a digit is neither a space nor an LF
no-lf : (d : ℕ) → is_ascii_digit d ≡ true → nat_eq d 10 ≡ false
no-lf d h = ne_eqb d 10 (λ is. absurd (false-is (sym (ap is_ascii_digit is) ∙ h)))
  where
    false-is : false ≡ true → ⊥
    false-is e = search rules

no-space : (d : ℕ) → is_ascii_digit d ≡ true → nat_eq d 32 ≡ false
no-space d h = ne_eqb d 32 (λ is. absurd (false-is (sym (ap is_ascii_digit is) ∙ h)))
  where
    false-is : false ≡ true → ⊥
    false-is e = search rules

small-mod : (n : ℕ) → n < 2 ^ 32 → n % 2 ^ 32 ≡ n
small-mod n h = omega (arith, h)

-- digits are read as their value, if it has 32 bits
digits-read : (ds rest : List ℕ) (m : ℕ) → all_ascii_digits ds ≡ true → read_on m ds < 2 ^ 32 → read_from m (ds ++ rest) ≡ read_from (read_on m ds) rest
digits-read [] rest m h small = refl
digits-read (d ∷ ds) rest m h small =
    let parts = and_parts (is_ascii_digit d) (all_ascii_digits ds) h in
    let more = grows ds (10 * m + (d - 48)) in
    let fits : 10 * m + (d - 48) < 2 ^ 32 = omega (arith, more, small) in
    on m d (ds ++ rest) (no-lf d parts.0) (no-space d parts.0)
    ∙ ap (λ k. read_from k (ds ++ rest)) (small-mod (10 * m + (d - 48)) fits)
    ∙ digits-read ds rest (10 * m + (d - 48)) parts.1 small

-- a number is read as itself
number-read : (n : ℕ) (rest : List ℕ) → n < 2 ^ 32 → read_from 0 (decimal n ++ rest) ≡ read_from n rest
number-read n rest small =
    let value : read_on 0 (decimal n) ≡ n = digits_value-decimal own n (omega (arith, small)) in
    digits-read (decimal n) rest 0 (digits_decimal own n (omega (arith, small))) (omega (arith, small, value))
    ∙ ap (λ k. read_from k rest) value

-- ---- orders

-- numbers, with a space before each but the first, and an LF after them
numbers-read : (order rest : List ℕ) (n : ℕ) → n < 2 ^ 32 → All (λ k. k < 2 ^ 32) order → read_from n (flat_map number order ++ (10 ∷ rest)) ≡ n ∷ order
numbers-read [] rest n small all = refl
numbers-read (k ∷ order) rest n small all =
    let fits = All-head (λ k. k < 2 ^ 32) k order all in
    ap (λ (xs : List ℕ). n ∷ xs)
    (ap (read_from 0) (append_assoc (decimal k) (flat_map number order) (10 ∷ rest))
    ∙ number-read k (flat_map number order ++ (10 ∷ rest)) fits
    ∙ numbers-read order rest k fits (All-tail (λ k. k < 2 ^ 32) k order all))

-- the text after the keyword of a line
order-read : (order rest : List ℕ) → All (λ k. k < 2 ^ 32) order → read_line (flat_map number order ++ (10 ∷ rest)) ≡ order
order-read [] rest all = refl
order-read (n ∷ order) rest all =
    let fits = All-head (λ k. k < 2 ^ 32) n order all in
    ap (read_from 0) (append_assoc (decimal n) (flat_map number order) (10 ∷ rest))
    ∙ number-read n (flat_map number order ++ (10 ∷ rest)) fits
    ∙ numbers-read order rest n fits (All-tail (λ k. k < 2 ^ 32) n order all)

-- a first line is its keyword and the numbers after it
line-parts : (order rest : List ℕ) → line_of order ++ rest ≡ codes "order" ++ (flat_map number order ++ (10 ∷ rest))
line-parts order rest =
    append_assoc (codes "order") (flat_map number order ++ (10 ∷ [])) rest
    ∙ ap (λ (xs : List ℕ). codes "order" ++ xs) (append_assoc (flat_map number order) (10 ∷ []) rest)

-- the order of a first line is read from it
pub told-read : (text order : List ℕ) → All (λ k. k < 2 ^ 32) order → Tells text order → read_line (drop 5 text) ≡ order
told-read text order all (rest, is) = ap (λ (xs : List ℕ). read_line (drop 5 xs)) (is ∙ line-parts order rest) ∙ order-read order rest all
