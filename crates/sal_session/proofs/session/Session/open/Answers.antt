-- A new broker, or the status.
use Rattle.sal_session.proofs.Kept.{opens_new}
use Rattle.sal_session.proofs.session.Session.open.Goals as goal

pub returns-in-Ok : goal.returns-in-Ok
returns-in-Ok c = opens_new c.args.script.now c.in-Ok.broker _ _ c.begun_with.ensures.role c.begun_with.ensures.text c.in-Ok.ensures.opens c.in-Ok.ensures.begun
