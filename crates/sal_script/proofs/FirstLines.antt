-- The first line of a report states one order.
use Rattle.std.proofs.Common.{◌≡◌, ℕ, ◌^◌, ◌<◌, List, [], ◌∷◌, ◌++◌, codes, decimal, nat_lt, refl, ap, sym, ◌∙◌, subst, arith, append_assoc, flat_map, ltb-true}
use Rattle.std.specs.List.{list_all}
use Rattle.std.specs.Char.{digit_value}
use Rattle.std.specs.Str.Parse.{AllDigits}
use Rattle.std.proofs.lemmas.Bool.{and_parts}
use Rattle.std.proofs.lemmas.Fmt.{decimal_injective, decimal_is_IsNumeral}
use Rattle.std.proofs.lemmas.List.{append_cancel_left}
use Rattle.sal_script.specs.Report.{number}
use Rattle.sal_script.specs.SomeOrder.{AreNumbers, FirstLinesTellOneOrder, line_of}

-- the first of these is no digit
abbrev Stops : List ℕ → Type 0
Stops [] = ⊥
Stops (x ∷ xs) = digit_value x < 10 → ⊥

abbrev first_or : ℕ → List ℕ → ℕ
first_or x [] = x
first_or x (y ∷ ys) = y

abbrev rest_of : List ℕ → List ℕ
rest_of [] = []
rest_of (x ∷ xs) = xs

-- two numerals, each with something after it that is no digit
same_digits : (ds es xs ys : List ℕ) → AllDigits 10 ds → AllDigits 10 es → Stops xs → Stops ys → ds ++ xs ≡ es ++ ys → (ds ≡ es) × (xs ≡ ys)
same_digits [] [] xs ys h k s t is = (refl, is)
same_digits [] (e ∷ es) xs ys h k s t is = absurd ((subst Stops is s) k.0)
same_digits (d ∷ ds) [] xs ys h k s t is = absurd ((subst Stops (sym is) t) h.0)
same_digits (d ∷ ds) (e ∷ es) xs ys h k s t is =
    let rest = same_digits ds es xs ys h.1 k.1 s t (ap rest_of is) in
    (λ i. ap (first_or d) is i ∷ rest.0 i, rest.1)

stops : (order rest : List ℕ) → Stops (flat_map number order ++ (10 ∷ rest))
stops [] rest = λ digit. omega (arith, digit)
stops (n ∷ order) rest = λ digit. omega (arith, digit)

-- what is after the word of a first line
abbrev behind : List ℕ → List ℕ → List ℕ
behind order rest = flat_map number order ++ (10 ∷ rest)

same_order : (first second : List ℕ) → AreNumbers first → AreNumbers second → (xs ys : List ℕ) → behind first xs ≡ behind second ys → first ≡ second
same_order [] [] h k xs ys is = refl
same_order [] (n ∷ second) h k xs ys is = absurd (let other = ap (first_or 0) is in omega (arith, other))
same_order (m ∷ first) [] h k xs ys is = absurd (let other = ap (first_or 0) is in omega (arith, other))
same_order (m ∷ first) (n ∷ second) h k xs ys is =
    let small = and_parts (nat_lt m (2 ^ 64)) (list_all (λ x. nat_lt x (2 ^ 64)) first) h in
    let small' = and_parts (nat_lt n (2 ^ 64)) (list_all (λ x. nat_lt x (2 ^ 64)) second) k in
    let m_fits : m < 2 ^ 64 = ltb-true m (2 ^ 64) small.0 in
    let n_fits : n < 2 ^ 64 = ltb-true n (2 ^ 64) small'.0 in
    let digits : (decimal m ≡ decimal n) × (behind first xs ≡ behind second ys) =
    same_digits (decimal m) (decimal n) (behind first xs) (behind second ys) (decimal_is_IsNumeral m m_fits).0.1 (decimal_is_IsNumeral n n_fits).0.1 (stops first xs) (stops second ys)
    (sym (append_assoc (decimal m) (flat_map number first) (10 ∷ xs)) ∙ ap rest_of is ∙ append_assoc (decimal n) (flat_map number second) (10 ∷ ys)) in
    let rest = same_order first second small.1 small'.1 xs ys digits.1 in
    λ i. decimal_injective m n m_fits n_fits digits.0 i ∷ rest i

-- a first line is its word and the numbers after it
line_parts : (order rest : List ℕ) → line_of order ++ rest ≡ codes "order" ++ behind order rest
line_parts order rest =
    append_assoc (codes "order") (flat_map number order ++ (10 ∷ [])) rest
    ∙ ap (λ (xs : List ℕ). codes "order" ++ xs) (append_assoc (flat_map number order) (10 ∷ []) rest)

pub first_lines_tell_one_order : FirstLinesTellOneOrder
first_lines_tell_one_order text first second h k (xs, is) (ys, is') =
    same_order first second h k xs ys
    (append_cancel_left (codes "order") (behind first xs) (behind second ys) (sym (line_parts first xs) ∙ sym is ∙ is' ∙ line_parts second ys))
