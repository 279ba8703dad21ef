use Rattle.std.proofs.Common.{◌≡◌}
use Rattle.tests_cases.proofs.checks.full.filled.Given as goal

abbrev pub invariant-loop-mark : goal.invariant-loop-mark
invariant-loop-mark g l = l.seat.lock ≡ l.sal
