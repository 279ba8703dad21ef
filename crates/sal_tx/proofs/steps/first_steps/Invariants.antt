-- The steps so far are the first ones.
use Rattle.std.proofs.Common.{◌≡◌, take}
use Rattle.sal_tx.proofs.steps.first_steps.Given as goal

abbrev pub invariant-loop-step : goal.invariant-loop-step
invariant-loop-step l = l.front ≡ take l.step-index l.step-items
