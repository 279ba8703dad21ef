-- What is left is to play the rest of the order from here.
use Rattle.std.proofs.Common.{◌≡◌, drop}
use Rattle.sal_script.specs.Play.{play_from}
use Rattle.sal_client.specs.Runs.{stand_of, AreRuns}
use Rattle.sal_client.proofs.simulation.Simulation.follow.Given as goal

abbrev pub invariant-loop-i : goal.invariant-loop-i
invariant-loop-i g l = record {
  world : l.self.hub.world ≡ l.initial.self.hub.world;
  runs : AreRuns l.self.hub l.programs l.self.runs.items;
  rest : play_from l.readers l.self.hub.world l.i (stand_of l.programs l.self.hub.log l.self.runs.items) (drop l.i l.order)
      ≡ play_from l.readers l.initial.self.hub.world 0 (stand_of l.programs l.initial.self.hub.log l.initial.self.runs.items) l.order;
}
