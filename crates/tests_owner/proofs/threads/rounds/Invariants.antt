use Rattle.sal_owner.specs.Turns.{Keeps}
use Rattle.tests_owner.proofs.threads.rounds.Given as goal

abbrev pub invariant-loop : goal.invariant-loop
invariant-loop g l = Keeps l.owners l.fn.seat l.seat
