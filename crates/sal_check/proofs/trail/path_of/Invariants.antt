-- The path so far is that of the steps so far.
use Rattle.std.proofs.Common.{◌≡◌, take}
use Rattle.sal_check.specs.Nodes.{steps_in}
use Rattle.sal_check.proofs.trail.path_of.Given as goal

abbrev pub invariant-loop-step : goal.invariant-loop-step
invariant-loop-step l = l.path ≡ take l.step-index (steps_in l.trail)
