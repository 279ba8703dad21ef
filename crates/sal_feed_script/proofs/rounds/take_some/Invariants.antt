-- What was taken is counted and added up.
use Rattle.std.proofs.Common.{◌≡◌}
use Rattle.sal_feed_script.specs.Halves.{IsTaken}
use Rattle.sal_feed_script.proofs.rounds.take_some.Given as goal

abbrev pub invariant-loop-number : goal.invariant-loop-number
invariant-loop-number g l = IsTaken l.feed l.notes l.half × (l.half.count ≡ l.number)
