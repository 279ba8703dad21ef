-- The broker makes the report.
use Rattle.std.proofs.Common.{Ok, Err, refl}
use Rattle.sal_session.proofs.Kept.{reports_open}
use Rattle.sal_session.proofs.session.Session.report.Goals as goal

pub returns-in-Ok : goal.returns-in-Ok
returns-in-Ok c = reports_open c.args.self.now.role _ _ c.in-Broker.leader c.report.new.self (Ok c.in-Ok.text) c.in-Broker.is c.in-Ok.ensures.reports refl refl refl

pub returns-in-Err : goal.returns-in-Err
returns-in-Err c = reports_open c.args.self.now.role _ _ c.in-Broker.leader c.report.new.self (Err c.in-Err.field-0) c.in-Broker.is c.in-Err.ensures.reports refl refl c.nothing.ensures
