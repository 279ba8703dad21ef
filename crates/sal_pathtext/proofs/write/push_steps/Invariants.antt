use Rattle.std.proofs.Common.{◌≡◌, ◌++◌, None, drop, string_bytes}
use Rattle.sal_pathtext.specs.Written.{steps_text}
use Rattle.sal_pathtext.proofs.write.push_steps.Given as goal

abbrev pub invariant-loop-step : goal.invariant-loop-step
invariant-loop-step l = string_bytes l.fn.out ++ steps_text l.schema None l.steps ≡ string_bytes l.out ++ steps_text l.schema l.here (drop l.step-index l.steps)
