use Rattle.std.proofs.Common.{◌≡◌, drop, None}
use Rattle.sal_grouping.specs.Augments.{follow}
use Rattle.sal_grouping.proofs.augments.follow.Given as goal

abbrev pub invariant-loop-step : goal.invariant-loop-step
invariant-loop-step l = follow l.rows l.nodes None l.path ≡ follow l.rows l.nodes l.at (drop l.step-index l.path)
