-- The stand-by takes the piece.
use Rattle.sal_session.proofs.Kept.{feeds_open}
use Rattle.sal_session.proofs.session.Session.feed.Goals as goal

pub returns-in-StandBy : goal.returns-in-StandBy
returns-in-StandBy c =
    feeds_open c.args.self.now.role c.args.domain c.args.piece.now _ _ c.in-StandBy.standby c.fed-answer.new.standby c.fed-answer.result c.in-StandBy.is c.fed-answer.ensures c.tell.ensures.number c.tell.ensures.text c.tell.ensures.role
