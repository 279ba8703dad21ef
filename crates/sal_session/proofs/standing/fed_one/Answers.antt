-- The follower takes it.
use Rattle.std.proofs.Common.{Ok, Err, refl}
use Rattle.sal_session.proofs.standing.fed_one.Goals as goal

pub returns-in-Ok : goal.returns-in-Ok
returns-in-Ok c = (Ok c.in-Ok.field-0, c.in-Ok.ensures.feeds, c.in-Ok.ensures.ground, (c.bare.ensures.number, c.bare.ensures.text))

pub returns-in-Err : goal.returns-in-Err
returns-in-Err c = (Err c.in-Err.fault, c.in-Err.ensures.feeds, c.in-Err.ensures.ground, c.feed_told.ensures)
