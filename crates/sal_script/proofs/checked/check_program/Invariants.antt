use Rattle.std.proofs.Common.{◌≡◌, ◌++◌, map, take, drop}
use Rattle.sal_script.specs.CheckedReads.{checked_step}
use Rattle.sal_script.specs.Moves.{moves_of}
use Rattle.sal_script.proofs.checked.check_program.Given as goal

abbrev pub invariant-loop-step : goal.invariant-loop-step
invariant-loop-step l = moves_of l.step-items ≡ map checked_step (moves_of (take l.step-index l.initial.step-items)) ++ moves_of (drop l.step-index l.initial.step-items)
