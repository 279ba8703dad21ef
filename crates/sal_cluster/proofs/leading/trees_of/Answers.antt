-- A frame came, or none.
use Rattle.std.proofs.Common.{ap, ◌∙◌}
use Rattle.sal_cluster.specs.StandBys.{trees_given}
use Rattle.sal_cluster.proofs.Followed.{given_none, some_given}
use Rattle.sal_cluster.proofs.leading.trees_of.Goals as goal

pub returns-in-Some : goal.returns-in-Some
returns-in-Some c = some_given c.follower-held.result.now c.args.follower.now _ _ c.some_opening.result c.version.ensures c.in-Some.is c.follower-held.ensures c.some_opening.ensures

pub returns-in-None : goal.returns-in-None
returns-in-None c = given_none c.follower-held.result.now _ c.version.ensures c.in-None.is ∙ ap trees_given c.follower-held.ensures
