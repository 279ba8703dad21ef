use Rattle.std.proofs.Common.{◌≡◌, drop}
use Rattle.sal_script.specs.Moves.{moves_of}
use Rattle.sal_script.proofs.Each.{each_from, before}
use Rattle.sal_script.proofs.Readers.{step_at}
use Rattle.sal_script.proofs.read.steps_of.Given as goal

abbrev pub invariant-loop-number : goal.invariant-loop-number
invariant-loop-number l = before (moves_of l.steps.items) (each_from (step_at l.client) l.number (drop l.number l.program)) ≡ each_from (step_at l.client) 0 l.program
