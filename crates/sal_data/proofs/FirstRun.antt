-- Where the first run of rows ends.
use Rattle.std.proofs.Common.{◌≡◌, ℕ, suc, ◌+◌, ◌<◌, Bool, true, false, List, [], ◌∷◌, Option, Some, None, length, take, drop, cond, refl, ap, sym, ◌∙◌, arith}
use Rattle.std.specs.Prelude.{not, if◌then◌else◌}
use Rattle.std.specs.List.{position_or_len}
use Rattle.std.specs.Ordering.{is_eq}
use Rattle.std.specs.Cmp.{Equal-is, tied_itself}
use Rattle.sal_types.specs.declared.value.Step.{Step}
use Rattle.sal_types.specs.declared.row.Row.{Row}
use Rattle.sal_types.specs.Order.{step_cmp-IsTotalOrder, step_cmp-IsAntisymmetric}
use Rattle.sal_data.specs.Written.{next_step, same_next, step_of, with_row, runs_of}

-- a row with another next step than this
abbrev pub differs : ℕ → Option Step → Row → Bool
differs k s row = not (same_next s (next_step k row))

-- how many rows from the first on have this next step
abbrev pub run_len : ℕ → Option Step → List Row → ℕ
run_len k s rows = position_or_len (differs k s) rows

same_next-itself : (s : Option Step) → same_next s s ≡ true
same_next-itself None = refl
same_next-itself (Some s) = ap is_eq (tied_itself step_cmp-IsTotalOrder s)

same_next-is : (s t : Option Step) → same_next s t ≡ true → s ≡ t
same_next-is None None e = refl
same_next-is (Some s) (Some t) e = ap Some (step_cmp-IsAntisymmetric s t ((Equal-is _).0 e))
same_next-is None (Some t) e = cc
same_next-is (Some s) None e = cc

-- a row and those after it begin with the run of those that have its next step
with_row-is : (k : ℕ) (row : Row) (rows : List Row) → with_row k row (runs_of k rows) ≡ (row ∷ take (run_len k (next_step k row) rows) rows) ∷ runs_of k (drop (run_len k (next_step k row) rows) rows)
unfolding runs_of
with_row-is k row [] = refl
with_row-is k row (r ∷ rows) =
    let s = next_step k row in
    let t = next_step k r in
    let n = run_len k t rows in
    let rest = with_row-is k r rows in
    ap (with_row k row) rest ∙ elim (same_next s t) as (λ b. same_next s t ≡ b → (if b then (row ∷ r ∷ take n rows) ∷ runs_of k (drop n rows) else (row ∷ []) ∷ (r ∷ take n rows) ∷ runs_of k (drop n rows)) ≡ (row ∷ take (cond (not (not b)) (1 + run_len k s rows) 0) (r ∷ rows)) ∷ runs_of k (drop (cond (not (not b)) (1 + run_len k s rows) 0) (r ∷ rows))) [
      | true ↦ λ e.
          let same : run_len k s rows ≡ n = ap (λ (u : Option Step). run_len k u rows) (same_next-is s t e) in
          let one : suc n ≡ 1 + run_len k s rows = omega arith in
          ap (λ m. (row ∷ take m (r ∷ rows)) ∷ runs_of k (drop m (r ∷ rows))) one
      | false ↦ λ e. ap (λ (runs : List (List Row)). (row ∷ []) ∷ runs) (sym rest)
    ] refl

-- the first run and those after it, where n rows have the next step of the first
pub first_run_is : (k : ℕ) (rows : List Row) (n : ℕ) → 0 < length rows → n ≡ run_len k (step_of k rows) rows → (0 < n) × (runs_of k rows ≡ take n rows ∷ runs_of k (drop n rows))
unfolding runs_of
first_run_is k [] n some is = absurd (omega arith)
first_run_is k (row ∷ rows) n some is =
    let s = next_step k row in
    let same : run_len k s (row ∷ rows) ≡ 1 + run_len k s rows = ap (λ b. cond (not (not b)) (1 + run_len k s rows) 0) (same_next-itself s) in
    let one : suc (run_len k s rows) ≡ n = omega arith in
    (omega arith, with_row-is k row rows ∙ ap (λ m. take m (row ∷ rows) ∷ runs_of k (drop m (row ∷ rows))) one)
