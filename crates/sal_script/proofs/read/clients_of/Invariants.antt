use Rattle.std.proofs.Common.{◌≡◌, drop}
use Rattle.sal_script.specs.Moves.{clients_of}
use Rattle.sal_script.proofs.Each.{each_from, before}
use Rattle.sal_script.proofs.Readers.{client_at}
use Rattle.sal_script.proofs.read.clients_of.Given as goal

abbrev pub invariant-loop-client : goal.invariant-loop-client
invariant-loop-client l = before (clients_of l.clients.items) (each_from client_at l.client (drop l.client l.programs)) ≡ each_from client_at 0 l.programs
