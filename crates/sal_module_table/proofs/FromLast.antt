-- First places, found from the last element to the first.
use Rattle.std.proofs.Common.{◌≡◌, ℕ, ◌+◌, ◌-◌, ◌≤◌, ◌<◌, List, length, drop, get_or, Bool, Option, Some, if◌then◌else◌, refl, ◌∙◌, sym, ap, arith}
use Rattle.std.specs.List.{position_from}
use Rattle.std.proofs.lemmas.List.{drop_more}

-- the first of the last `n` elements
abbrev pub first_of_last : {X : Type 0} → (X → Bool) → List X → ℕ → Option ℕ
first_of_last p xs done = position_from p (length xs - done) (drop (length xs - done) xs)

pub one-before : {X : Type 0} (p : X → Bool) (xs : List X) (done : ℕ) (x : X) → done < length xs → x ≡ get_or xs (length xs - 1 - done) x
    → (if p x then Some (length xs - 1 - done) else first_of_last p xs done) ≡ first_of_last p xs (done + 1)
one-before p xs done x h is =
    let k = length xs - 1 - done in
    let next : length xs - done ≡ k + 1 = omega arith in
    let here : length xs - (done + 1) ≡ k = omega arith in
    let opened = drop_more xs k x (omega arith) in
    let rest = position_from p (k + 1) (drop (k + 1) xs) in
    ap (λ n. if p x then Some k else position_from p n (drop n xs)) next
    ∙ ap (λ y. if p y then Some k else rest) is
    ∙ sym (ap (position_from p k) opened)
    ∙ sym (ap (λ n. position_from p n (drop n xs)) here)

pub all-done : {X : Type 0} (p : X → Bool) (xs : List X) (done : ℕ) → length xs ≤ done → first_of_last p xs done ≡ position_from p 0 xs
all-done p xs done h = let none : length xs - done ≡ 0 = omega arith in rw none refl
