-- The broker of the next epoch, or the same one.
use Rattle.std.proofs.Common.{refl}
use Rattle.sal_session.proofs.Kept.{begun_open}
use Rattle.sal_session.proofs.session.Session.epoch.Goals as goal

pub returns-in-Broker : goal.returns-in-Broker
returns-in-Broker c =
    let leader = c.begun-leader.result.0 in
    begun_open c.args.self.now.role c.args.newest.now _ c.begun-leader.result.1 c.in-Broker.leader leader c.in-Broker.ensures.value c.begun-leader.ensures refl c.nothing.ensures
