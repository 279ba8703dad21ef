-- The least with the breaches of the rules so far.
use Rattle.std.proofs.Common.{◌≡◌, take}
use Rattle.std.specs.List.{fold, flat_map}
use Rattle.sal_node.specs.Shape.{tree_at}
use Rattle.sal_rules.specs.Breaches.{keep}
use Rattle.sal_check.specs.Near.{near_of}
use Rattle.sal_check.specs.Nodes.{steps_in}
use Rattle.sal_check.proofs.changed.Near.judge_node.Given as goal

abbrev pub invariant-loop-rule : goal.invariant-loop-rule
invariant-loop-rule l = l.least ≡ fold keep l.initial.least (flat_map (near_of l.self.stamps.now l.self.walk.schema.now l.self.walk.store (steps_in l.place.trail.now) (tree_at l.before) l.place.node.now.value l.place.spot.node) (take l.rule-index l.rule-items))
