-- The one commit has these trees.
use Rattle.sal_commit.proofs.Following.{AreFollowing-one}
use Rattle.sal_commit.proofs.Sounds.{AreSound-one}
use Rattle.sal_commit.proofs.opening.first_commits.Goals as goal

pub returns-clause-sound : goal.returns-clause-sound
returns-clause-sound c table none = AreSound-one table c.in_ok-commits.commits.items _ c.in_ok-commits.ensures.items none

pub returns-clause-following : goal.returns-clause-following
returns-clause-following c up = AreFollowing-one c.in_ok-commits.commits.items _ c.in_ok-commits.ensures.items up
