use Rattle.std.proofs.Common.{◌≡◌}
use Rattle.sal_script.specs.Moves.{clients_of}
use Rattle.sal_script.proofs.Loads.{programs_below}
use Rattle.sal_script.proofs.load.programs.Given as goal

abbrev pub invariant-loop-client : goal.invariant-loop-client
invariant-loop-client l = clients_of l.clients.items ≡ programs_below l.rounds l.start l.client
