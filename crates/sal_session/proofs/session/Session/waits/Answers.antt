-- The bits of what waits at the broker.
use Rattle.sal_session.proofs.Kept.{waits_open}
use Rattle.sal_session.proofs.session.Session.waits.Goals as goal

pub returns-in-Broker : goal.returns-in-Broker
returns-in-Broker c = waits_open c.args.self.now.role c.args.client c.args.slot _ _ _ c.in-Broker.is c.waits.ensures c.bits.ensures
