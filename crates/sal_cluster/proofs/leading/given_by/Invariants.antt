-- Those so far.
use Rattle.std.proofs.Common.{◌≡◌, map, take}
use Rattle.sal_cluster.specs.StandBys.{trees_given}
use Rattle.sal_cluster.proofs.leading.given_by.Given as goal

abbrev pub invariant-loop-follower : goal.invariant-loop-follower
invariant-loop-follower l = l.given.items ≡ map trees_given (take l.follower-index l.followers)
