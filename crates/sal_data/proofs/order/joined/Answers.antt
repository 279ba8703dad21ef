use Rattle.std.proofs.Common.{◌∙◌, ◌+◌, subst, sym}
use Rattle.sal_types.specs.Tree.{IsAscending}
use Rattle.sal_data.specs.Read.{in_order}
use Rattle.sal_data.proofs.Ordered.{same_rows, ascending-take, IsAscending-in_order}
use Rattle.sal_data.proofs.order.joined.Goals as goal

pub unreachable-requires : goal.unreachable-requires
unreachable-requires c =
    let same = same_rows c.in_ok-list.list.items (in_order c.args.rows.items) (c.in_ok-list.ensures ∙ c.in_ok-map.ensures) in
    let rises = ascending-take (c.in-Err.field-0.index + 1) c.in_ok-list.list.items (subst IsAscending (sym same) (IsAscending-in_order c.args.rows.items)) in
    let falls = c.in-Err.ensures.order.out_of_order in
    cc

pub returns : goal.returns
returns c = c.in-Ok.ensures.rows ∙ same_rows c.in_ok-list.list.items (in_order c.args.rows.items) (c.in_ok-list.ensures ∙ c.in_ok-map.ensures)
