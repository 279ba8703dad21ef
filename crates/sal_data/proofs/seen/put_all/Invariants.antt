-- The set has the steps so far, and those that it had.
use Rattle.std.proofs.Common.{◌++◌}
use Rattle.sal_data.specs.Walked.{HaveSame}
use Rattle.sal_data.proofs.seen.put_all.Given as goal

abbrev pub invariant-loop-step : goal.invariant-loop-step
invariant-loop-step l = HaveSame l.others.keys (l.yielded ++ l.initial.others.keys)
