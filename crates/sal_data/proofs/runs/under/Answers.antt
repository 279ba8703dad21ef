use Rattle.std.proofs.Common.{◌≡◌, ℕ, List, take, drop, ap, sym, ◌∙◌}
use Rattle.std.specs.List.{prefix_len}
use Rattle.sal_types.specs.declared.row.Row.{Row}
use Rattle.sal_types.specs.Prefix.{is_prefix}
use Rattle.sal_data.proofs.Consecutive.{under_is, from_first}
use Rattle.sal_data.proofs.runs.under.Goals as goal

pub returns : goal.returns
returns c =
    let p = c.args.path.now in
    let rows = c.args.rows.now in
    let below = λ (row : Row). is_prefix p row.path in
    let rest : c.split_at.result.1.now ≡ from_first p rows = c.split_at.ensures.back ∙ ap (λ (m : ℕ). drop m rows) c.first_under.ensures.place in
    let all : c.split_at-2.result.0.now ≡ take (prefix_len below (from_first p rows)) (from_first p rows) =
    c.split_at-2.ensures.front ∙ ap (λ (m : ℕ). take m c.split_at.result.1.now) c.count_under.ensures.count ∙ ap (λ (rs : List Row). take (prefix_len below rs) rs) rest in
    all ∙ sym (under_is p rows c.requires)
