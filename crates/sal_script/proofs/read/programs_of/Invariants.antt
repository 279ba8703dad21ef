use Rattle.std.proofs.Common.{◌≡◌, drop, map}
use Rattle.sal_script.proofs.Each.{each_from, before}
use Rattle.sal_script.proofs.Readers.{data_in, program_at}
use Rattle.sal_script.proofs.read.programs_of.Given as goal

abbrev pub invariant-loop-client : goal.invariant-loop-client
invariant-loop-client l = before (map data_in l.programs.items) (each_from program_at l.client (drop l.client l.clients)) ≡ each_from program_at 0 l.clients
