-- The seat stays at its feed.
use Rattle.std.proofs.Common.{◌≡◌}
use Rattle.tests_feed.proofs.threads.take.Given as goal

abbrev pub invariant-loop : goal.invariant-loop
invariant-loop g l = l.seat.feed ≡ l.initial.seat.feed
