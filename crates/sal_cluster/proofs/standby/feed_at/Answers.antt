-- It is set back.
use Rattle.sal_cluster.proofs.Followed.{one_fed}
use Rattle.sal_cluster.proofs.standby.feed_at.Goals as goal

pub returns : goal.returns
returns c =
    one_fed c.args.followers.now.items c.args.index c.index_mut.result.now c.feed.new.self c.args.piece.now c.feed.result c.requires c.index_mut.ensures.value c.feed.ensures.taken c.feed.ensures.leader
