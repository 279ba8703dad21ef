-- The work, and what follows it.
use Rattle.std.proofs.Common.{refl}
use Rattle.sal_update.proofs.Onward.{worked_then}
use Rattle.sal_update.proofs.retry.worked.Goals as goal

pub returns-in-Ok-clause-worked : goal.returns-in-Ok-clause-worked
returns-in-Ok-clause-worked g c =
    let run = c.in-Ok.ensures in
    worked_then g.W.Work.gives c.args.seat.now.view c.submitted.new.seat.view c.args.work.now c.run.new.self c.args.tx c.run.new.tx c.submitted.result run.gives (run.begun, run.mode, run.base) c.submitted.ensures.submitted

pub returns-in-Err-clause-worked : goal.returns-in-Err-clause-worked
returns-in-Err-clause-worked g c = (c.run.new.tx, c.in-Err.ensures.gives, refl)
