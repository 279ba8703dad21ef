-- The number is that of the newest commit.
use Rattle.std.proofs.Common.{ℕ, subst}
use Rattle.sal_follow.specs.Framed.{IsSnapshot}
use Rattle.sal_resume.specs.Newest.{newest}
use Rattle.sal_cluster.specs.Leaders.{table_sent}
use Rattle.sal_cluster.proofs.leader.Leader.snapshot.Goals as goal

pub returns-in-Some : goal.returns-in-Some
returns-in-Some c =
    let h = c.args.self.now.broker.hub in
    let n = c.args.domain in
    subst (λ (m : ℕ). IsSnapshot (table_sent h n) m (newest h n) c.newest_frame.result) c.in-Some.ensures.1 c.newest_frame.ensures
