-- It is the follower's.
use Rattle.std.proofs.Common.{subst}
use Rattle.sal_follow.specs.Framed.{IsSnapshotAt}
use Rattle.sal_follow.specs.Laws.{trees_held}
use Rattle.sal_follow.specs.States.{Following}
use Rattle.sal_cluster.proofs.standby.StandBy.snapshot.Goals as goal

pub returns : goal.returns
returns c = subst (λ (f : Following). IsSnapshotAt f.schema f.held.version (trees_held f.held) c.snapshot.result) c.follower.ensures c.snapshot.ensures
