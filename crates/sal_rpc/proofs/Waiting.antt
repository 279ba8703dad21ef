-- Requests that wait, by their numbers.
use Rattle.std.proofs.Common.{◌≡◌, ℕ, ◌+◌, ◌<◌, ◌≤◌, Bool, true, false, not, ◌&&◌, List, [], ◌∷◌, ◌++◌, Some, length, drop, refl, ap, sym, ◌∙◌, cond, arith, append-nil, if◌then◌else◌, nat_eq}
use Rattle.std.specs.Prelude.{slice_get}
use Rattle.std.specs.List.{filter}
use Rattle.std.proofs.lemmas.Bool.Decides.{nat_tests}
use Rattle.sal_rpc.specs.Routing.{Requested, waiting_from}

next-long : (n : ℕ) (r : Requested) (rs : List Requested) → (n + 1) + length rs ≡ n + length (r ∷ rs)
next-long n r rs = omega arith

pub waiting-more : (n : ℕ) (test : ℕ → Requested → Bool) (rs : List Requested) (r : Requested) → waiting_from n test (rs ++ r ∷ []) ≡ waiting_from n test rs ++ (if test (n + length rs) r then (n + length rs, r) ∷ [] else [])
waiting-more n test [] r = let e : n ≡ n + 0 = omega arith in append-nil (if test n r then (n, r) ∷ [] else []) ∙ ap (λ k. if test k r then (k, r) ∷ [] else []) e
waiting-more n test (x ∷ rs) r =
    let later : waiting_from (n + 1) test (rs ++ r ∷ []) ≡ waiting_from (n + 1) test rs ++ (if test (n + length (x ∷ rs)) r then (n + length (x ∷ rs), r) ∷ [] else []) = waiting-more (n + 1) test rs r ∙ ap (λ k. waiting_from (n + 1) test rs ++ (if test k r then (k, r) ∷ [] else [])) (next-long n x rs) in
    elim (test n x) as (λ b. (if b then (n, x) ∷ [] else []) ++ waiting_from (n + 1) test (rs ++ r ∷ []) ≡ ((if b then (n, x) ∷ [] else []) ++ waiting_from (n + 1) test rs) ++ (if test (n + length (x ∷ rs)) r then (n + length (x ∷ rs), r) ∷ [] else [])) [
      | true ↦ ap (λ (l : List (ℕ × Requested)). (n, x) ∷ l) later
      | false ↦ later
    ]

-- those with another number
abbrev pub but : ℕ → List (ℕ × Requested) → List (ℕ × Requested)
but id ws = filter (λ w. not (nat_eq id w.0)) ws

pub waiting-but : (id n : ℕ) (test : ℕ → Requested → Bool) (rs : List Requested) → waiting_from n (λ k r. test k r && not (nat_eq id k)) rs ≡ but id (waiting_from n test rs)
waiting-but id n test [] = refl
waiting-but id n test (r ∷ rs) =
    elim (test n r) as (λ b. (if b && not (nat_eq id n) then (n, r) ∷ [] else []) ++ waiting_from (n + 1) (λ k q. test k q && not (nat_eq id k)) rs ≡ but id ((if b then (n, r) ∷ [] else []) ++ waiting_from (n + 1) test rs)) [
      | true ↦ elim (nat_eq id n) as (λ b. (if not b then (n, r) ∷ [] else []) ++ waiting_from (n + 1) (λ k q. test k q && not (nat_eq id k)) rs ≡ cond (not b) ((n, r) ∷ but id (waiting_from (n + 1) test rs)) (but id (waiting_from (n + 1) test rs))) [
        | true ↦ waiting-but id (n + 1) test rs
        | false ↦ ap (λ (l : List (ℕ × Requested)). (n, r) ∷ l) (waiting-but id (n + 1) test rs)
      ]
      | false ↦ waiting-but id (n + 1) test rs
    ]

-- a number before all of them
pub but-before : (id n : ℕ) (test : ℕ → Requested → Bool) (rs : List Requested) → id < n → but id (waiting_from n test rs) ≡ waiting_from n test rs
but-before id n test [] low = refl
but-before id n test (r ∷ rs) low =
    let rest : but id (waiting_from (n + 1) test rs) ≡ waiting_from (n + 1) test rs = but-before id (n + 1) test rs (omega (arith, low)) in
    elim (test n r) as (λ b. but id ((if b then (n, r) ∷ [] else []) ++ waiting_from (n + 1) test rs) ≡ (if b then (n, r) ∷ [] else []) ++ waiting_from (n + 1) test rs) [
      | true ↦ let other : nat_eq id n ≡ false = grind (arith, nat_tests) in ap (λ b. cond (not b) ((n, r) ∷ but id (waiting_from (n + 1) test rs)) (but id (waiting_from (n + 1) test rs))) other ∙ ap (λ (l : List (ℕ × Requested)). (n, r) ∷ l) rest
      | false ↦ rest
    ]

pub first-low : (n : ℕ) (test : ℕ → Requested → Bool) (rs : List Requested) (w : ℕ × Requested) → slice_get (waiting_from n test rs) 0 ≡ Some w → n ≤ w.0
first-low n test [] w e = cc
first-low n test (r ∷ rs) w e =
    elim (test n r) as (λ b. slice_get ((if b then (n, r) ∷ [] else []) ++ waiting_from (n + 1) test rs) 0 ≡ Some w → n ≤ w.0) [
      | true ↦ λ h. let x : ℕ × Requested = (n, r) in let same : x ≡ w = cc in let number : n ≡ w.0 = ap (λ (z : ℕ × Requested). z.0) same in omega (arith, number)
      | false ↦ λ h. let later : n + 1 ≤ w.0 = first-low (n + 1) test rs w h in omega (arith, later)
    ] e

pub first-high : (n : ℕ) (test : ℕ → Requested → Bool) (rs : List Requested) (w : ℕ × Requested) → slice_get (waiting_from n test rs) 0 ≡ Some w → w.0 < n + length rs
first-high n test [] w e = cc
first-high n test (r ∷ rs) w e =
    elim (test n r) as (λ b. slice_get ((if b then (n, r) ∷ [] else []) ++ waiting_from (n + 1) test rs) 0 ≡ Some w → w.0 < n + length (r ∷ rs)) [
      | true ↦ λ h. let x : ℕ × Requested = (n, r) in let same : x ≡ w = cc in let number : n ≡ w.0 = ap (λ (z : ℕ × Requested). z.0) same in omega (arith, number)
      | false ↦ λ h. let later : w.0 < (n + 1) + length rs = first-high (n + 1) test rs w h in omega (arith, later)
    ] e

-- without the first
pub but-first : (n : ℕ) (test : ℕ → Requested → Bool) (rs : List Requested) (w : ℕ × Requested) → slice_get (waiting_from n test rs) 0 ≡ Some w → but w.0 (waiting_from n test rs) ≡ drop 1 (waiting_from n test rs)
but-first n test [] w e = refl
but-first n test (r ∷ rs) w e =
    elim (test n r) as (λ b. slice_get ((if b then (n, r) ∷ [] else []) ++ waiting_from (n + 1) test rs) 0 ≡ Some w → but w.0 ((if b then (n, r) ∷ [] else []) ++ waiting_from (n + 1) test rs) ≡ drop 1 ((if b then (n, r) ∷ [] else []) ++ waiting_from (n + 1) test rs)) [
      | true ↦ λ h. let x : ℕ × Requested = (n, r) in let same : x ≡ w = cc in let number : n ≡ w.0 = ap (λ (z : ℕ × Requested). z.0) same in let own : nat_eq w.0 n ≡ true = grind (arith, nat_tests, number) in
          ap (λ b. cond (not b) ((n, r) ∷ but w.0 (waiting_from (n + 1) test rs)) (but w.0 (waiting_from (n + 1) test rs))) own ∙ but-before w.0 (n + 1) test rs (omega (arith, number))
      | false ↦ λ h. but-first (n + 1) test rs w h
    ] e

-- those of another test that none passes which passes this one
pub but-other : (n : ℕ) (test other : ℕ → Requested → Bool) → ((k : ℕ) (r : Requested) → test k r ≡ true → other k r ≡ false) → (rs : List Requested) (w : ℕ × Requested) → slice_get (waiting_from n test rs) 0 ≡ Some w → but w.0 (waiting_from n other rs) ≡ waiting_from n other rs
but-other n test other apart [] w e = refl
but-other n test other apart (r ∷ rs) w e =
    elim (test n r) as (λ b. test n r ≡ b → slice_get ((if b then (n, r) ∷ [] else []) ++ waiting_from (n + 1) test rs) 0 ≡ Some w → but w.0 ((if other n r then (n, r) ∷ [] else []) ++ waiting_from (n + 1) other rs) ≡ (if other n r then (n, r) ∷ [] else []) ++ waiting_from (n + 1) other rs) [
      | true ↦ λ yes h. let x : ℕ × Requested = (n, r) in let same : x ≡ w = cc in let number : n ≡ w.0 = ap (λ (z : ℕ × Requested). z.0) same in
          ap (λ b. but w.0 ((if b then (n, r) ∷ [] else []) ++ waiting_from (n + 1) other rs)) (apart n r yes) ∙ but-before w.0 (n + 1) other rs (omega (arith, number)) ∙ sym (ap (λ b. (if b then (n, r) ∷ [] else []) ++ waiting_from (n + 1) other rs) (apart n r yes))
      | false ↦ λ no h. let later : n + 1 ≤ w.0 = first-low (n + 1) test rs w h in let rest = but-other (n + 1) test other apart rs w h in
          elim (other n r) as (λ b. but w.0 ((if b then (n, r) ∷ [] else []) ++ waiting_from (n + 1) other rs) ≡ (if b then (n, r) ∷ [] else []) ++ waiting_from (n + 1) other rs) [
            | true ↦ let differs : nat_eq w.0 n ≡ false = grind (arith, nat_tests, later) in ap (λ b. cond (not b) ((n, r) ∷ but w.0 (waiting_from (n + 1) other rs)) (but w.0 (waiting_from (n + 1) other rs))) differs ∙ ap (λ (l : List (ℕ × Requested)). (n, r) ∷ l) rest
            | false ↦ rest
          ]
    ] refl e
