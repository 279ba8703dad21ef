use Rattle.std.proofs.Common.{◌+◌}
use Rattle.sal_tree.proofs.Parts.{ascending-take}
use Rattle.sal_tree.proofs.root.Root.rows.Goals as goal

pub unreachable-requires : goal.unreachable-requires
unreachable-requires c =
    let rises = ascending-take (c.in-Err.field-0.index + 1) c.in_ok-list.list.items c.in_ok-list.ensures.order in
    let falls = c.in-Err.ensures.order.out_of_order in
    cc
