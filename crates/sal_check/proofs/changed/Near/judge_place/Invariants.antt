-- The least with the breaches of the nodes so far.
use Rattle.std.proofs.Common.{◌≡◌, take}
use Rattle.std.specs.List.{fold}
use Rattle.sal_node.specs.Shape.{tree_at}
use Rattle.sal_rules.specs.Breaches.{keep}
use Rattle.sal_check.specs.Near.{near_all}
use Rattle.sal_check.specs.Nodes.{steps_in}
use Rattle.sal_check.proofs.changed.Near.judge_place.Given as goal

abbrev pub invariant-loop-number : goal.invariant-loop-number
invariant-loop-number l = l.least ≡ fold keep l.initial.least (near_all l.self.stamps.now l.self.walk.schema.now l.self.walk.store (steps_in l.place.trail.now) (tree_at l.before) l.place.node.now.value l.place.spot.node (take l.number-index l.number-items))
