-- The clients taken in so far.
use Rattle.sal_run.specs.Joined.{Collects, Joins}
use Rattle.sal_run.proofs.joined.join_all.Given as goal

abbrev pub invariant-loop-run : goal.invariant-loop-run
invariant-loop-run l = record {
  joins : Joins l.sal l.fn.seat.view l.yielded l.seat;
  collects : Collects l.yielded l.replies;
}
