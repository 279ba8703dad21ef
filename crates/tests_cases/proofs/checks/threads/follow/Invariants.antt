-- The follower has received `fed` bytes.
use Rattle.sal_follow.specs.Fed.{IsFedBy}
use Rattle.tests_cases.proofs.checks.threads.follow.Given as goal

abbrev pub invariant-loop : goal.invariant-loop
invariant-loop g l = IsFedBy l.fed l.follower
