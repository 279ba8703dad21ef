use Rattle.std.specs.declared.sync.Arc.{Arc}
use Rattle.std.specs.declared.alloc.Global.{Global}
use Rattle.sal_node.specs.declared.node.Child.{Child}
use Rattle.std.proofs.Common.{arith, ap, ◌∙◌}
use Rattle.sal_node.proofs.Rows.{seen-more}
use Rattle.sal_node.proofs.pages.push_children.Goals as goal

pub loop-child-preserved : goal.loop-child-preserved
loop-child-preserved c = seen-more c.loop-child.into.items c.args.children.now c.loop-child.child-index _ c.child-item.result c.args.into.now.items c.push.new.self.items (omega arith) (c.deref-child.ensures ∙ ap (λ (a : Arc Child Global). a.value) c.child-item.is) c.loop-child.invariant c.in_ok-push.ensures.items
