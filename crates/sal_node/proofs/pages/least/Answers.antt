use Rattle.std.proofs.Common.{arith}
use Rattle.sal_node.proofs.Newest.{AreFrom-kept, AreFrom-next}
use Rattle.sal_node.proofs.pages.least.Goals as goal

pub loop-stamp-preserved-then-least-stamp : goal.loop-stamp-preserved-then-least-stamp
loop-stamp-preserved-then-least-stamp c = AreFrom-kept c.args.stamps.now c.loop-stamp.stamp-index c.loop-stamp.least (omega arith) c.if-least-stamp.true c.loop-stamp.invariant

pub loop-stamp-preserved : goal.loop-stamp-preserved
loop-stamp-preserved c = AreFrom-next c.args.stamps.now c.loop-stamp.stamp-index c.loop-stamp.least (omega arith) c.if-least-stamp.false c.loop-stamp.invariant
