-- So far each try ended in a conflict.
use Rattle.sal_broker.specs.Turns.{Keeps}
use Rattle.sal_update.specs.Updates.{Conflicts}
use Rattle.sal_update.proofs.retry.update.Given as goal

abbrev pub invariant-loop-done : goal.invariant-loop-done
invariant-loop-done g l = record {
  keeps : Keeps l.sal l.fn.seat l.seat;
  before : Conflicts g.W.Work.gives l.tries l._done l.fn.seat.view l.fn.work l.seat.view l.work;
}
