use Rattle.sal_follow.proofs.Followed.{streams_followed, holds_the_last}
use Rattle.sal_follow.proofs.laws.streams_are_followed.Goals as goal

pub returns-clause-followed : goal.returns-clause-followed
returns-clause-followed c = streams_followed

pub returns-clause-last : goal.returns-clause-last
returns-clause-last c = holds_the_last
