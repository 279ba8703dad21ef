use Rattle.sal_follow.proofs.Followed.{begins, snapshot_followed}
use Rattle.sal_follow.proofs.laws.streams_begin_anywhere.Goals as goal

pub returns-clause-stream : goal.returns-clause-stream
returns-clause-stream c = begins

pub returns-clause-followed : goal.returns-clause-followed
returns-clause-followed c = λ table trees k number all after inside. snapshot_followed table trees k number inside all after
