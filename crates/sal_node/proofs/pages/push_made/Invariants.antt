use Rattle.std.proofs.Common.{◌≡◌, ◌++◌, take}
use Rattle.sal_node.specs.Shape.{row_of, seen, made_by}
use Rattle.sal_node.proofs.pages.push_made.Given as goal

abbrev pub invariant-loop-child : goal.invariant-loop-child
invariant-loop-child l = seen l.into.items ≡ seen l.initial.into.items ++ made_by l.stamps (row_of (take l.child-index l.children))
