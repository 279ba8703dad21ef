-- It is the follower's.
use Rattle.std.proofs.Common.{ap, ◌∙◌}
use Rattle.sal_follow.specs.States.{Following}
use Rattle.sal_cluster.proofs.standby.StandBy.number.Goals as goal

pub returns : goal.returns
returns c = c.version.ensures ∙ ap (λ (f : Following). f.held.version) c.follower.ensures
