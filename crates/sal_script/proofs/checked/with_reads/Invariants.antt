use Rattle.std.proofs.Common.{◌≡◌, ◌++◌, map, take, drop}
use Rattle.sal_script.specs.CheckedReads.{checked_step}
use Rattle.sal_script.specs.Moves.{clients_of}
use Rattle.sal_script.proofs.checked.with_reads.Given as goal

abbrev pub invariant-loop-program : goal.invariant-loop-program
invariant-loop-program l = clients_of l.program-items ≡ map (map checked_step) (clients_of (take l.program-index l.initial.program-items)) ++ clients_of (drop l.program-index l.initial.program-items)
