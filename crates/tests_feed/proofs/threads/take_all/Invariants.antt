-- The seat stays at its feed.
use Rattle.std.proofs.Common.{◌≡◌}
use Rattle.tests_feed.proofs.threads.take_all.Given as goal

abbrev pub invariant-loop-number : goal.invariant-loop-number
invariant-loop-number g l = l.seat.feed ≡ l.initial.seat.feed
