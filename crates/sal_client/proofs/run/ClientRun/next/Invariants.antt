-- The local steps before the index are answered, over whatever log the client is sound for.
use Rattle.std.proofs.Common.{◌≡◌, ◌≤◌}
use Rattle.sal_script.specs.Play.{arrive}
use Rattle.sal_client.specs.Clients.{Everywhere, HasSchema, StaysSound, client_of}
use Rattle.sal_client.specs.Runs.{IsProgram, moves_from}
use Rattle.sal_client.proofs.run.ClientRun.next.Given as goal

abbrev pub invariant-loop-i : goal.invariant-loop-i
invariant-loop-i g l = record {
  at : l.self.at ≡ l.i;
  from : l.initial.self.at ≤ l.i;
  program : IsProgram l.steps l.self;
  schema : HasSchema l.readers l.self.client;
  sound : StaysSound l.initial.self.client l.self.client;
  number : l.self.client.number ≡ l.initial.self.client.number;
  rest : Everywhere l.readers l.initial.self.client (λ known. arrive l.readers known.world known.log (client_of l.initial.self.client) (moves_from l.initial.self.at l.steps) ≡ arrive l.readers known.world known.log (client_of l.self.client) (moves_from l.i l.steps));
}
