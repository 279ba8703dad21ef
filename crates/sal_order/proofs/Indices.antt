-- Two texts from an index on.
use Rattle.std.proofs.Common.{◌≡◌, ℕ, zero, suc, ◌+◌, ◌<◌, ◌≤◌, List, [], ◌∷◌, drop, get_or, length, None, Some, refl, ap, sym, ◌∙◌, arith, if◌then◌else◌, nat_eq}
use Rattle.sal_order.specs.Differences.{difference}

-- both have a byte there
step : (line i : ℕ) (xs ys : List ℕ) (x y : ℕ) → i < length xs → i < length ys → x ≡ get_or xs i x → y ≡ get_or ys i y
    → difference line (drop i xs) (drop i ys) ≡ (if nat_eq x y then difference (if nat_eq x 10 then line + 1 else line) (drop (suc i) xs) (drop (suc i) ys) else Some line)
step line i [] ys x y h k at_x at_y = absurd (omega arith)
step line i (a ∷ xs) [] x y h k at_x at_y = absurd (omega arith)
step line zero (a ∷ xs) (b ∷ ys) x y h k at_x at_y = λ j. if nat_eq (sym at_x j) (sym at_y j) then difference (if nat_eq (sym at_x j) 10 then line + 1 else line) xs ys else Some line
step line (suc i) (a ∷ xs) (b ∷ ys) x y h k at_x at_y = step line i xs ys x y (omega arith) (omega arith) at_x at_y

pub difference-at : (line i : ℕ) (xs ys : List ℕ) (x y : ℕ) → i < length xs → i < length ys → x ≡ get_or xs i x → y ≡ get_or ys i y
    → difference line (drop i xs) (drop i ys) ≡ (if nat_eq x y then difference (if nat_eq x 10 then line + 1 else line) (drop (i + 1) xs) (drop (i + 1) ys) else Some line)
difference-at line i xs ys x y h k at_x at_y =
    let next : suc i ≡ i + 1 = omega arith in
    step line i xs ys x y h k at_x at_y ∙ ap (λ j. if nat_eq x y then difference (if nat_eq x 10 then line + 1 else line) (drop j xs) (drop j ys) else Some line) next

-- the second one has ended
pub difference-short : (line i : ℕ) (xs ys : List ℕ) → i < length xs → length ys ≤ i → difference line (drop i xs) (drop i ys) ≡ Some line
difference-short line i [] ys h k = absurd (omega arith)
difference-short line zero (a ∷ xs) [] h k = refl
difference-short line zero (a ∷ xs) (b ∷ ys) h k = absurd (omega arith)
difference-short line (suc i) (a ∷ xs) [] h k = rest line i xs (omega arith)
  where
    rest : (line i : ℕ) (xs : List ℕ) → i < length xs → difference line (drop i xs) [] ≡ Some line
    rest line i [] h = absurd (omega arith)
    rest line zero (x ∷ xs) h = refl
    rest line (suc i) (x ∷ xs) h = rest line i xs (omega arith)
difference-short line (suc i) (a ∷ xs) (b ∷ ys) h k = difference-short line i xs ys (omega arith) (omega arith)

-- the first one has ended
pub difference-long : (line i : ℕ) (xs ys : List ℕ) → length xs ≤ i → i < length ys → difference line (drop i xs) (drop i ys) ≡ Some line
difference-long line i xs [] h k = absurd (omega arith)
difference-long line zero [] (b ∷ ys) h k = refl
difference-long line zero (a ∷ xs) (b ∷ ys) h k = absurd (omega arith)
difference-long line (suc i) [] (b ∷ ys) h k = rest line i ys (omega arith)
  where
    rest : (line i : ℕ) (ys : List ℕ) → i < length ys → difference line [] (drop i ys) ≡ Some line
    rest line i [] h = absurd (omega arith)
    rest line zero (y ∷ ys) h = refl
    rest line (suc i) (y ∷ ys) h = rest line i ys (omega arith)
difference-long line (suc i) (a ∷ xs) (b ∷ ys) h k = difference-long line i xs ys (omega arith) (omega arith)

-- both have ended
pub difference-none : (line i : ℕ) (xs ys : List ℕ) → length xs ≤ i → length ys ≤ i → difference line (drop i xs) (drop i ys) ≡ None
difference-none line i xs ys h k = λ j. difference line (dropped i xs h j) (dropped i ys k j)
  where
    dropped : (i : ℕ) (xs : List ℕ) → length xs ≤ i → drop i xs ≡ []
    dropped zero [] h = refl
    dropped (suc i) [] h = refl
    dropped zero (x ∷ xs) h = absurd (omega arith)
    dropped (suc i) (x ∷ xs) h = dropped i xs (omega arith)
