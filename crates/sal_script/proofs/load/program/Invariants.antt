use Rattle.std.proofs.Common.{◌≡◌}
use Rattle.sal_script.specs.Load.{program_of}
use Rattle.sal_script.specs.Moves.{moves_of}
use Rattle.sal_script.proofs.load.program.Given as goal

abbrev pub invariant-loop-round : goal.invariant-loop-round
invariant-loop-round l = moves_of l.steps.items ≡ program_of l.start l.client l.round
