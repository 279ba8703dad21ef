-- The steps so far are those of the trail.
use Rattle.std.proofs.Common.{◌≡◌, take}
use Rattle.sal_check.specs.Nodes.{steps_in}
use Rattle.sal_check.proofs.trail.longer.Given as goal

abbrev pub invariant-loop-above : goal.invariant-loop-above
invariant-loop-above l = steps_in l.list.items ≡ take l.above-index (steps_in l.trail)
