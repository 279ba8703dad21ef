use Rattle.std.proofs.Common.{◌≤◌, length, ap, subst, arith}
use Rattle.sal_node.specs.Shape.{ArePaged, tree_in}
use Rattle.sal_node.proofs.Targets.{changed-row}
use Rattle.sal_node.proofs.paging.changed_paging.Goals as goal

pub few_of-requires-clause-few : goal.few_of-requires-clause-few
few_of-requires-clause-few c =
    let fits : length c.in-Few.children.items ≤ 64 = subst (λ k. ArePaged k) c.in-Few.is c.requires.old in
    let same = ap length c.deref.ensures.value in
    changed-row c.args.step.now (tree_in c.args.node) c.deref.result.now c.in_ok-children-in-Few.children.items (omega (arith, same, fits)) c.in_ok-children-in-Few.ensures
