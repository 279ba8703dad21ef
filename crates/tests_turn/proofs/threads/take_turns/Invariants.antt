use Rattle.tests_turn.specs.Works.{Works}
use Rattle.tests_turn.proofs.threads.take_turns.Given as goal

abbrev pub invariant-loop-n : goal.invariant-loop-n
invariant-loop-n g l = Works l.turn l.fn.seat.view l.seat
