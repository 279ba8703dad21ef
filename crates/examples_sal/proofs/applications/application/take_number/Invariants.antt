use Rattle.sal.specs.Turns.{Keeps}
use Rattle.examples_sal.proofs.applications.application.take_number.Given as goal

abbrev pub invariant-loop : goal.invariant-loop
invariant-loop g l = Keeps l.sal l.fn.seat l.seat
