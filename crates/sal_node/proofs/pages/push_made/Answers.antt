use Rattle.sal_node.specs.declared.node.Child.{Child}
use Rattle.std.proofs.Common.{arith, ap, ◌∙◌}
use Rattle.sal_node.specs.Tree.{Tree}
use Rattle.sal_node.proofs.Newest.{made-passed, made-pushed}
use Rattle.sal_node.proofs.pages.push_made.Goals as goal

pub loop-child-preserved-then-not-is_among : goal.loop-child-preserved-then-not-is_among
loop-child-preserved-then-not-is_among c = made-passed c.args.stamps.now c.args.into.now.items c.loop-child.into.items c.args.children.now c.loop-child.child-index c.child-item.result c.is_among.result c.stamp.result (omega arith) c.child-item.is c.is_among.ensures (c.stamp.ensures ∙ ap (λ (t : Tree). t.stamp) c.deref-in-loop-child.ensures ∙ ap (λ (d : Child). d.node.value.stamp) c.deref.ensures) c.if-not-is_among.true c.loop-child.invariant

pub loop-child-preserved : goal.loop-child-preserved
loop-child-preserved c = made-pushed c.args.stamps.now c.args.into.now.items c.loop-child.into.items c.push.new.self.items c.args.children.now c.loop-child.child-index _ c.child-item.result c.is_among.result c.stamp.result (omega arith) c.child-item.is c.deref-child.ensures c.is_among.ensures (c.stamp.ensures ∙ ap (λ (t : Tree). t.stamp) c.deref-in-loop-child.ensures ∙ ap (λ (d : Child). d.node.value.stamp) c.deref.ensures) c.if-not-is_among.false c.in_ok-push.ensures.items c.loop-child.invariant
