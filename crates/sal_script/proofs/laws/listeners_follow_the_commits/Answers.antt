use Rattle.sal_script.proofs.Followed.{followed-in}
use Rattle.sal_script.proofs.laws.listeners_follow_the_commits.Goals as goal

pub returns : goal.returns
returns c world log id l trees some made = followed-in world trees log id l some made
