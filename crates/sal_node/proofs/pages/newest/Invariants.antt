use Rattle.std.proofs.Common.{take}
use Rattle.sal_node.specs.Shape.{row_of, UpTo}
use Rattle.sal_node.proofs.pages.newest.Given as goal

abbrev pub invariant-loop-child : goal.invariant-loop-child
invariant-loop-child l = UpTo l.newest (row_of (take l.child-index l.children))
