use Rattle.std.proofs.Common.{arith}
use Rattle.sal_schema.proofs.Facts.{parent_before}
use Rattle.sal_schema.proofs.parts.children_of.Goals as goal

pub add_to_list-requires : goal.add_to_list-requires
add_to_list-requires c =
    let low = rw c.in-Some.is at (parent_before c.args.table.now c.items-nodes.result.now c.loop-i.i c.index-nodes-i.result c.requires c.items-nodes.ensures c.loop-i-test.true c.index-nodes-i.is) in
    omega (arith, low)
