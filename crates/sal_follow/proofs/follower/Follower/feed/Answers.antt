use Rattle.sal_follow.proofs.KeepingUp.{keeps_up}
use Rattle.sal_follow.proofs.follower.Follower.feed.Goals as goal

pub returns-clause-leader : goal.returns-clause-leader
returns-clause-leader c = keeps_up _ _ _ _ c.take.ensures
