-- The clients before the index have reached their ends, and the others are as they were.
use Rattle.std.proofs.Common.{◌≡◌, length, map, take, drop}
use Rattle.sal_script.specs.Play.{replies_of}
use Rattle.sal_client.specs.Runs.{replies_in, runs_of}
use Rattle.sal_client.proofs.Standing.{with_replies}
use Rattle.sal_client.proofs.simulation.Simulation.finish.Given as goal

abbrev pub invariant-loop-i : goal.invariant-loop-i
invariant-loop-i g l = record {
  log : l.self.hub ≡ l.initial.self.hub;
  long : length l.self.runs.items ≡ length l.initial.self.runs.items;
  rest : drop l.i l.self.runs.items ≡ drop l.i l.initial.self.runs.items;
  replies : with_replies (map replies_in (take l.i l.self.runs.items)) (replies_of l.readers l.initial.self.hub.world l.initial.self.hub.log (runs_of (drop l.i l.programs) (drop l.i l.initial.self.runs.items)))
      ≡ replies_of l.readers l.initial.self.hub.world l.initial.self.hub.log (runs_of l.programs l.initial.self.runs.items);
}
