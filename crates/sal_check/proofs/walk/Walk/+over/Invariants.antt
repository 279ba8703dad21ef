-- The least with the breaches of the place, and of the children so far and below them.
use Rattle.std.proofs.Common.{◌≡◌, take}
use Rattle.std.specs.List.{fold}
use Rattle.sal_node.specs.Shape.{seen}
use Rattle.sal_node.specs.Tree.{size_of}
use Rattle.sal_rules.specs.Breaches.{keep}
use Rattle.sal_check.specs.Nodes.{found_in, steps_in}
use Rattle.sal_check.proofs.walk.Walk.+over.Given as goal

abbrev pub decreases-over : goal.decreases-over
decreases-over l = size_of l.place.now.node.now.value

abbrev pub invariant-loop-child : goal.invariant-loop-child
invariant-loop-child l = l.least ≡ fold keep l.initial.least (found_in l.self.schema.now l.self.store (steps_in l.place.trail.now) l.place.spot (take l.child-index (seen l.child-items)))
