-- The submissions, entries and outcomes of a chain, when some are added.
use Rattle.std.proofs.Common.{◌≡◌, ℕ, zero, suc, ◌+◌, ◌-◌, ◌<◌, ◌≤◌, Bool, true, false, not, ◌&&◌, List, [], ◌∷◌, ◌++◌, length, Option, None, Some, refl, ap, ◌∙◌, arith, if◌then◌else◌, nat_le}
use Rattle.std.specs.Prelude.{slice_get}
use Rattle.std.specs.Option.{option_or}
use Rattle.std.proofs.lemmas.Bool.Decides.{nat_tests}
use Rattle.std.proofs.lemmas.Option.{same_Some}
use Rattle.sal_rows.specs.declared.outcome.Outcome.{Outcome}
use Rattle.sal_history.specs.Submissions.{Sent, failing, failing_from, is_done, is_in, last_from}
use Rattle.sal_hub.specs.Failures.{up_to}

-- ---- the last that passes a test

-- it is one of them
pub last_from-within : {X : Type 0} (n : ℕ) (test : X → Bool) (xs : List X) (k : ℕ) → last_from n test xs ≡ Some k → (n ≤ k) × (k < n + length xs)
last_from-within n test [] k e = cc
last_from-within n test (x ∷ xs) k e =
    elim (last_from (n + 1) test xs) as (λ o. last_from (n + 1) test xs ≡ o → option_or o (if test x then Some n else None) ≡ Some k → (n ≤ k) × (k < n + suc (length xs))) [
      | Some j ↦ λ is at. (let same : j ≡ k = same_Some j k at in let rest = last_from-within (n + 1) test xs j is in (omega (arith, same, rest.0), omega (arith, same, rest.1)))
      | None ↦ λ is. elim (test x) as (λ b. (if b then Some n else None) ≡ Some k → (n ≤ k) × (k < n + suc (length xs))) [
        | true ↦ λ at. (let same : n ≡ k = same_Some n k at in (omega (arith, same), omega (arith, same)))
        | false ↦ λ at. cc
      ]
    ] refl e

-- and passes the test
pub last_from-passes : {X : Type 0} (n : ℕ) (test : X → Bool) (xs : List X) (k : ℕ) → last_from n test xs ≡ Some k → (x : X) × (slice_get xs (k - n) ≡ Some x) × (test x ≡ true)
last_from-passes n test [] k e = cc
last_from-passes n test (x ∷ xs) k e =
    elim (last_from (n + 1) test xs) as (λ o. last_from (n + 1) test xs ≡ o → option_or o (if test x then Some n else None) ≡ Some k → (y : _) × (slice_get (x ∷ xs) (k - n) ≡ Some y) × (test y ≡ true)) [
      | Some j ↦ λ is at. (
          let same : j ≡ k = same_Some j k at in
          let rest = last_from-passes (n + 1) test xs j is in
          let low = last_from-within (n + 1) test xs j is in
          let next : k - n ≡ suc (j - (n + 1)) = omega (arith, same, low.0) in
          (rest.0, ap (slice_get (x ∷ xs)) next ∙ rest.1, rest.2)
          )
      | None ↦ λ is. elim (test x) as (λ b. test x ≡ b → (if b then Some n else None) ≡ Some k → (y : _) × (slice_get (x ∷ xs) (k - n) ≡ Some y) × (test y ≡ true)) [
        | true ↦ λ passes at. (let same : n ≡ k = same_Some n k at in let first : k - n ≡ 0 = omega (arith, same) in (x, ap (slice_get (x ∷ xs)) first, passes))
        | false ↦ λ passes at. cc
      ] refl
    ] refl e

-- an element that passes is not after the last one
pub last_from-some : {X : Type 0} (n : ℕ) (test : X → Bool) (xs : List X) (i : ℕ) (x : X) → slice_get xs i ≡ Some x → test x ≡ true → (k : ℕ) × (last_from n test xs ≡ Some k)
last_from-some n test [] i x at passes = cc
last_from-some n test (y ∷ xs) zero x at passes =
    let here : test y ≡ true = ap test (same_Some y x at) ∙ passes in
    elim (last_from (n + 1) test xs) as (λ o. (k : ℕ) × (option_or o (if test y then Some n else None) ≡ Some k)) [
      | Some j ↦ (j, refl)
      | None ↦ (n, ap (λ b. if b then Some n else None) here)
    ]
last_from-some n test (y ∷ xs) (suc i) x at passes =
    let rest = last_from-some (n + 1) test xs i x at passes in
    (rest.0, ap (λ o. option_or o (if test y then Some n else None)) rest.1)

-- ---- the first that failed

pub failing-none : (n : ℕ) (ss : List Sent) (os : List Outcome) → failing_from n None ss os ≡ None
failing-none n [] os = refl
failing-none n (s ∷ ss) [] = refl
failing-none n (s ∷ ss) (o ∷ os) = failing-none (n + 1) ss os

-- a submission that is not decided
pub failing-submit : (n : ℕ) (chain : Option ℕ) (ss : List Sent) (os : List Outcome) (s : Sent) → length os ≤ length ss → failing_from n chain (ss ++ s ∷ []) os ≡ failing_from n chain ss os
failing-submit n chain [] [] s l = refl
failing-submit n chain [] (o ∷ os) s l = absurd (omega arith)
failing-submit n chain (x ∷ ss) [] s l = refl
failing-submit n chain (x ∷ ss) (o ∷ os) s l = ap (λ rest. if is_in chain x && not (is_done o) then Some n else rest) (failing-submit (n + 1) chain ss os s (omega arith))

unfailed : (n : ℕ) (chain : Option ℕ) (ss : List Sent) → failing_from n chain ss [] ≡ None
unfailed n chain [] = refl
unfailed n chain (s ∷ ss) = refl

-- one more outcome
pub failing-decide : (n : ℕ) (chain : Option ℕ) (ss : List Sent) (os : List Outcome) (s : Sent) (o : Outcome) → slice_get ss (length os) ≡ Some s → failing_from n chain ss (os ++ o ∷ []) ≡ option_or (failing_from n chain ss os) (if is_in chain s && not (is_done o) then Some (n + length os) else None)
failing-decide n chain [] os s o e = cc
failing-decide n chain (x ∷ ss) [] s o e =
    let here : n ≡ n + 0 = omega arith in
    (λ i. if is_in chain (same_Some x s e i) && not (is_done o) then Some (here i) else unfailed (n + 1) chain ss i)
failing-decide n chain (x ∷ ss) (p ∷ os) s o e =
    let next : n + 1 + length os ≡ n + suc (length os) = omega arith in
    let new : Option ℕ = if is_in chain s && not (is_done o) then Some (n + suc (length os)) else None in
    ap (λ rest. if is_in chain x && not (is_done p) then Some n else rest)
    (failing-decide (n + 1) chain ss os s o e ∙ ap (λ k. option_or (failing_from (n + 1) chain ss os) (if is_in chain s && not (is_done o) then Some k else None)) next)
    ∙ elim (is_in chain x && not (is_done p)) as (λ b. (if b then Some n else option_or (failing_from (n + 1) chain ss os) new) ≡ option_or (if b then Some n else failing_from (n + 1) chain ss os) new) [ true ↦ refl | false ↦ refl ]

-- it was decided
failing-within : (n : ℕ) (chain : Option ℕ) (ss : List Sent) (os : List Outcome) (k : ℕ) → failing_from n chain ss os ≡ Some k → k < n + length os
failing-within n chain [] os k e = cc
failing-within n chain (s ∷ ss) [] k e = cc
failing-within n chain (s ∷ ss) (o ∷ os) k e =
    elim (is_in chain s && not (is_done o)) as (λ b. (if b then Some n else failing_from (n + 1) chain ss os) ≡ Some k → k < n + suc (length os)) [
      | true ↦ λ at. (let same : n ≡ k = same_Some n k at in omega (arith, same))
      | false ↦ λ at. omega (arith, failing-within (n + 1) chain ss os k at)
    ] e

pub failing-fixed : (chain : Option ℕ) (ss : List Sent) (os : List Outcome) → up_to (length os) (failing chain ss os) ≡ failing chain ss os
failing-fixed chain ss os =
    elim (failing chain ss os) as (λ o. failing chain ss os ≡ o → up_to (length os) o ≡ o) [
      | None ↦ λ e. refl
      | Some k ↦ λ e. let bound : k < 1 + length os = failing-within 1 chain ss os k e in let low : nat_le k (length os) ≡ true = grind (arith, nat_tests, bound) in ap (λ b. if b then Some k else None) low
    ] refl
