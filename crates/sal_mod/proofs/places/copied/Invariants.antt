use Rattle.std.proofs.Common.{◌≡◌, take}
use Rattle.sal_mod.proofs.places.copied.Given as goal

abbrev pub invariant-loop-step : goal.invariant-loop-step
invariant-loop-step l = l.list.items ≡ take l.step-index l.steps
