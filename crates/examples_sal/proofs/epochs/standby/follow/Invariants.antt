-- The follower has received `fed` bytes.
use Rattle.sal.specs.Fed.{IsFedBy}
use Rattle.examples_sal.proofs.epochs.standby.follow.Given as goal

abbrev pub invariant-loop : goal.invariant-loop
invariant-loop g l = IsFedBy l.standing.fed l.standing.follower
