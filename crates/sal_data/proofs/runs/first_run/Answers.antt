use Rattle.std.proofs.Common.{◌≡◌, ℕ, ◌<◌, ◌≤◌, ◌∷◌, List, Option, length, ap, sym, ◌∙◌, arith}
use Rattle.std.proofs.lemmas.List.Sums.{prefix_len-le-length}
use Rattle.sal_types.specs.declared.value.Step.{Step}
use Rattle.sal_types.specs.declared.row.Row.{Row}
use Rattle.std.specs.Prelude.{not}
use Rattle.sal_data.specs.Written.{step_of, runs_of}
use Rattle.sal_data.proofs.FirstRun.{run_len, differs, first_run_is}
use Rattle.sal_data.proofs.runs.first_run.Goals as goal

within : (k : ℕ) (s : Option Step) (rows : List Row) (n : ℕ) → n ≡ run_len k s rows → n ≤ length rows
within k s rows n is = omega (arith, prefix_len-le-length (λ (row : Row). not (differs k s row)) rows)

pub split_at-requires : goal.split_at-requires
split_at-requires c = within c.args.k _ c.args.rows.now c.run_len-len.result c.run_len-len.ensures

pub returns-clause-runs : goal.returns-clause-runs
returns-clause-runs c =
    let k = c.args.k in
    let rows = c.args.rows.now in
    let n = c.run_len-len.result in
    let is : n ≡ run_len k (step_of k rows) rows = c.run_len-len.ensures ∙ ap (λ (s : Option Step). run_len k s rows) c.step_of.ensures in
    (first_run_is k rows n c.requires is).1 ∙ (λ i. sym c.split_at.ensures.front i ∷ runs_of k (sym c.split_at.ensures.back i))

pub returns-clause-shorter : goal.returns-clause-shorter
returns-clause-shorter c =
    let k = c.args.k in
    let rows = c.args.rows.now in
    let n = c.run_len-len.result in
    let is : n ≡ run_len k (step_of k rows) rows = c.run_len-len.ensures ∙ ap (λ (s : Option Step). run_len k s rows) c.step_of.ensures in
    let some : 0 < n = (first_run_is k rows n c.requires is).0 in
    omega (arith, c.split_at.ensures.back_len)
