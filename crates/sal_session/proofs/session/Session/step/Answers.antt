-- The broker makes the step.
use Rattle.std.proofs.Common.{Ok, Err, refl, ap, sym, ◌∙◌}
use Rattle.sal_session.specs.Sessions.{as_now}
use Rattle.sal_session.specs.Texts.{told}
use Rattle.sal_session.proofs.Kept.{kept_by, steps_open}
use Rattle.sal_session.proofs.session.Session.step.Goals as goal

pub returns-in-Ok : goal.returns-in-Ok
returns-in-Ok c = steps_open c.args.self.now.role c.args.client c.args.step.now _ _ c.in-Broker.leader c.step.new.self (Ok c.in-Ok.text) c.in-Broker.is c.in-Ok.ensures.steps refl refl refl

pub returns-in-Err : goal.returns-in-Err
returns-in-Err c =
    let fault = c.in-Err.fault in
    let fails = c.fail.ensures in
    steps_open c.args.self.now.role c.args.client c.args.step.now _ _ c.in-Broker.leader c.step.new.self (Err fault) c.in-Broker.is c.in-Err.ensures.steps
    (fails.role ∙ sym (kept_by fault (as_now c.in-Broker.leader c.step.new.self))) fails.number (ap told fails.text ∙ c.nothing.ensures)
