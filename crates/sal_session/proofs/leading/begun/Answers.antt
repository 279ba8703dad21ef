-- By what the leader answered.
use Rattle.std.proofs.Common.{Ok, Err, refl}
use Rattle.sal_session.proofs.leading.begun.Goals as goal

pub returns-in-Ok : goal.returns-in-Ok
returns-in-Ok c = (Ok c.in-Ok.leader, c.in-Ok.ensures, (refl, refl))

pub returns-in-Err : goal.returns-in-Err
returns-in-Err c = (Err (c.in-Err.leader, c.in-Err.fault), c.in-Err.ensures, (refl, c.epoch_number.ensures))
