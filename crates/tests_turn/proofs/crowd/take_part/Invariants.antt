-- The seat stays at its lock.
use Rattle.std.proofs.Common.{◌≡◌}
use Rattle.tests_turn.proofs.crowd.take_part.Given as goal

abbrev pub invariant-loop-n : goal.invariant-loop-n
invariant-loop-n g l = l.seat.lock ≡ l.turn
