-- The path names what the rest of it names from here.
use Rattle.std.proofs.Common.{◌≡◌, drop, None}
use Rattle.sal_schema.specs.Paths.{node_from}
use Rattle.sal_near.proofs.whole.node_at_end.Given as goal

abbrev pub invariant-loop-step : goal.invariant-loop-step
invariant-loop-step l = node_from None l.steps ≡ node_from l.here (drop l.step-index l.steps)
