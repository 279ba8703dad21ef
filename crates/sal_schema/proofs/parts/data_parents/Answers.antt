use Rattle.std.proofs.Common.{◌≡◌, length, ◌++◌, ◌∷◌, [], ap, ◌∙◌, arith}
use Rattle.std.proofs.lemmas.List.{length-map, length-take-le}
use Rattle.sal_schema.proofs.Above.{one_more}
use Rattle.sal_schema.proofs.Facts.{parent_before}
use Rattle.sal_schema.proofs.parts.data_parents.Goals as goal

pub passed_over-parent-requires-clause-known : goal.passed_over-parent-requires-clause-known
passed_over-parent-requires-clause-known c =
    let long : length c.deref.result.now ≡ c.loop-node.node-index =
    ap length (c.deref.ensures.value ∙ c.loop-node.invariant) ∙ length-map _ _ ∙ length-take-le c.loop-node.node-index c.items-nodes.result.now (omega arith) in
    rw long (parent_before c.args.table.now c.items-nodes.result.now c.loop-node.node-index c.node-item.result c.requires c.items-nodes.ensures c.loop-node-test.true c.node-item.is)

pub loop-node-preserved : goal.loop-node-preserved
loop-node-preserved c =
    let more = one_more c.args.table.now c.items-nodes.result.now c.loop-node.list.items c.loop-node.node-index c.node-item.result c.requires c.items-nodes.ensures c.loop-node-test.true c.node-item.is c.loop-node.invariant in
    let pushed = c.in_ok-push.ensures.items in
    let passed = rw c.deref.ensures.value at c.passed_over-parent.ensures in
    pushed ∙ ap (λ x. c.loop-node.list.items ++ x ∷ []) passed ∙ more
