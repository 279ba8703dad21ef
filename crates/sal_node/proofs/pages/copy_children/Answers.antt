use Rattle.std.proofs.Common.{arith}
use Rattle.sal_node.proofs.Rows.{row_of-more}
use Rattle.sal_node.proofs.pages.copy_children.Goals as goal

pub loop-child-preserved : goal.loop-child-preserved
loop-child-preserved c = row_of-more c.loop-child.into.items c.args.children.now c.loop-child.child-index c.child-item.result c.in_ok-child.child c.args.into.now.items c.push.new.self.items (omega arith) c.child-item.is c.in_ok-child.ensures c.loop-child.invariant c.in_ok-push.ensures.items
