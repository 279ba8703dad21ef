use Rattle.std.proofs.Common.{◌+◌}
use Rattle.sal_data.proofs.Ordered.{ascending-take}
use Rattle.sal_data.proofs.order.tree_of.Goals as goal

pub unreachable-requires : goal.unreachable-requires
unreachable-requires c =
    let rises = ascending-take (c.in-Err.field-0.index + 1) c.args.rows.items c.requires in
    let falls = c.in-Err.ensures.order.out_of_order in
    cc
