use Rattle.std.proofs.Common.{◌≡◌, ◌+◌, List, ◌∷◌, ◌++◌, [], take, sym, subst, ap, ◌∙◌}
use Rattle.std.proofs.lemmas.List.{take_more}
use Rattle.sal_rows.specs.declared.op.Op.{Op}
use Rattle.sal_tree.specs.declared.commit.Pair.{Pair}
use Rattle.sal_tx.specs.Views.{IsSeen, with_tree}
use Rattle.sal_tx.proofs.Nexts.{IsSeen-none, LieBelow-at}
use Rattle.sal_tx.proofs.views.viewed.Goals as goal

pub loop-op-init : goal.loop-op-init
loop-op-init c = IsSeen-none c.args.stamp c.args.base.now c.in_ok-view.view c.in_ok-view.ensures c.node.ensures.whole.ordered c.node-2.ensures.whole.ordered

pub next_tree-requires : goal.next_tree-requires
next_tree-requires c = LieBelow-at c.args.ops.now c.loop-op.op-index c.op-item.result c.requires c.loop-op-test.true c.op-item.is

pub loop-op-preserved : goal.loop-op-preserved
loop-op-preserved c =
    let ops = c.args.ops.now in
    let k = c.loop-op.op-index in
    let op = c.op-item.result in
    let base = c.args.base.now in
    let after = with_tree c.loop-op.view op.store c.in_ok-tree.tree in
    let grown : take k ops ++ op ∷ [] ≡ take (k + 1) ops = ap (λ (o : Op). take k ops ++ o ∷ []) c.op-item.is ∙ sym (take_more ops k op c.loop-op-test.true) in
    let seen = subst (λ (os : List Op). IsSeen c.args.stamp os base after) grown (c.in_ok-tree.ensures (take k ops) c.loop-op.invariant) in
    subst (λ (view : Pair). IsSeen c.args.stamp (take (k + 1) ops) base view) (sym c.set_tree.ensures) seen
