-- The least with the breaches of the nodes so far.
use Rattle.std.proofs.Common.{◌≡◌, Some, take}
use Rattle.std.specs.List.{fold}
use Rattle.sal_rules.specs.Breaches.{keep, breaches_at}
use Rattle.sal_check.specs.Nodes.{seen_in, steps_in}
use Rattle.sal_check.proofs.walk.Walk.judge_place.Given as goal

abbrev pub invariant-loop-number : goal.invariant-loop-number
invariant-loop-number l = l.least ≡ fold keep l.initial.least (breaches_at l.self.schema.now l.self.store (steps_in l.place.trail.now) (seen_in (Some l.place.node.now.value)) l.place.spot.node (take l.number-index l.number-items))
