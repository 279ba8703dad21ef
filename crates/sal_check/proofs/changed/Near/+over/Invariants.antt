-- The least with the breaches of the place, and of the children so far and below them.
use Rattle.std.proofs.Common.{◌≡◌, take}
use Rattle.std.specs.List.{fold}
use Rattle.sal_node.specs.Shape.{seen, tree_at}
use Rattle.sal_node.specs.Tree.{size_of}
use Rattle.sal_rules.specs.Breaches.{keep}
use Rattle.sal_check.specs.Near.{near_in}
use Rattle.sal_check.specs.Nodes.{steps_in}
use Rattle.sal_check.proofs.changed.Near.+over.Given as goal

abbrev pub decreases-over : goal.decreases-over
decreases-over l = size_of l.place.now.node.now.value

abbrev pub invariant-loop-child : goal.invariant-loop-child
invariant-loop-child l = l.least ≡ fold keep l.initial.least (near_in l.self.stamps.now l.self.walk.schema.now l.self.walk.store (steps_in l.place.trail.now) l.place.spot (tree_at l.before) (take l.child-index (seen l.child-items)))
