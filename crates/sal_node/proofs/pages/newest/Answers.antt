use Rattle.sal_node.specs.declared.node.Child.{Child}
use Rattle.std.proofs.Common.{arith, ap, ◌∙◌}
use Rattle.sal_node.specs.Tree.{Tree}
use Rattle.sal_node.proofs.Newest.{UpTo-child}
use Rattle.sal_node.proofs.pages.newest.Goals as goal

pub loop-child-preserved : goal.loop-child-preserved
loop-child-preserved c = UpTo-child c.args.children.now c.loop-child.child-index c.child-item.result c.loop-child.newest c.stamp.result c.larger-newest.result (omega arith) c.child-item.is (c.stamp.ensures ∙ ap (λ (t : Tree). t.stamp) c.deref-in-loop-child.ensures ∙ ap (λ (d : Child). d.node.value.stamp) c.deref.ensures) c.larger-newest.ensures.one c.larger-newest.ensures.other c.loop-child.invariant
