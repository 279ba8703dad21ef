-- The stand-by is the broker, or it stays.
use Rattle.std.proofs.Common.{refl}
use Rattle.sal_session.proofs.Led.{led_to, stays}
use Rattle.sal_session.proofs.session.Session.lead.Goals as goal

pub returns-in-Ok : goal.returns-in-Ok
returns-in-Ok c = led_to c.args.self.now.role c.args.version c.in-Ok.leader _ c.in-Ok.ensures refl c.nothing.ensures

pub returns-in-Err : goal.returns-in-Err
returns-in-Err c = stays c.args.self.now.role c.args.version c.in-Err.answer _ _ c.in-Err.ensures c.tell.ensures.number c.tell.ensures.text c.tell.ensures.role
