-- The least with the breaches of the rules so far.
use Rattle.std.proofs.Common.{◌≡◌, Some, take}
use Rattle.std.specs.List.{fold, flat_map}
use Rattle.sal_rules.specs.Breaches.{keep, breach_of}
use Rattle.sal_check.specs.Nodes.{seen_in, steps_in}
use Rattle.sal_check.proofs.walk.Walk.judge_node.Given as goal

abbrev pub invariant-loop-rule : goal.invariant-loop-rule
invariant-loop-rule l = l.least ≡ fold keep l.initial.least (flat_map (breach_of l.self.schema.now l.self.store (steps_in l.place.trail.now) (seen_in (Some l.place.node.now.value)) l.place.spot.node) (take l.rule-index l.rule-items))
