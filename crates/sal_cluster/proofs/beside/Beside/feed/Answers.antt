-- It keeps up as its follower does.
use Rattle.std.proofs.Common.{Err, subst}
use Rattle.sal_follow.specs.States.{Following}
use Rattle.sal_cluster.specs.StandBys.{KeepsUp}
use Rattle.sal_cluster.proofs.Keeping.{keeps}
use Rattle.sal_cluster.proofs.beside.Beside.feed.Goals as goal

pub returns-in_default-clause-leader : goal.returns-in_default-clause-leader
returns-in_default-clause-leader c =
    let f = c.self.inside.follower in
    subst (λ (it : Following). KeepsUp c.args.piece.now it it (Err c.without_room.result)) c.self.view_is
    (keeps c.args.piece.now f f (Err c.without_room.result) (c.without_room.ensures c.args.piece.now))

pub returns-clause-leader : goal.returns-clause-leader
returns-clause-leader c =
    subst (λ (f : Following). KeepsUp c.args.piece.now f c.feed_behind.new.follower c.feed_behind.result) c.self.view_is
    (keeps c.args.piece.now c.self.inside.follower c.feed_behind.new.follower c.feed_behind.result c.feed_behind.ensures.taken)
