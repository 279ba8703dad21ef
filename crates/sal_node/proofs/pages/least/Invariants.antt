use Rattle.std.proofs.Common.{take}
use Rattle.sal_node.specs.Shape.{AreFrom}
use Rattle.sal_node.proofs.pages.least.Given as goal

abbrev pub invariant-loop-stamp : goal.invariant-loop-stamp
invariant-loop-stamp l = AreFrom l.least (take l.stamp-index l.stamps)
