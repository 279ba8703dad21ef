-- The failures so far are cut.
use Rattle.std.proofs.Common.{◌≡◌, ◌++◌, drop, take}
use Rattle.sal_hub.specs.Failures as spec
use Rattle.sal_hub.proofs.failures.cut_failures.Given as goal

abbrev pub invariant-loop-i : goal.invariant-loop-i
invariant-loop-i l = l.failures ≡ spec.cut_failures l.count (take l.i l.initial.failures) ++ drop l.i l.initial.failures
