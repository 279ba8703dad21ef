-- The client is where its turns so far brought it; each moved it by one step at least.
use Rattle.std.proofs.Common.{◌≤◌, length}
use Rattle.sal_broker.specs.Turns.{Keeps}
use Rattle.sal_client.specs.Runs.{run_of}
use Rattle.sal_run.specs.Looked.{Looked}
use Rattle.sal_run.specs.Stands.{Stands}
use Rattle.sal_run.proofs.worker.Worker.work.Given as goal

abbrev pub invariant-loop-turn : goal.invariant-loop-turn
invariant-loop-turn g l = record {
  keeps : Keeps l.self.sal.now l.fn.seat l.seat;
  stands : Stands l.self.readers.now l.self.steps.now l.seat.view l.run (run_of l.self.steps.now l.run);
  room : length l.seat.view.own ≤ l.run.at;
  looked : Looked l.fn.seat.view l.seat.view;
  on : l._turn ≤ l.run.at;
}
