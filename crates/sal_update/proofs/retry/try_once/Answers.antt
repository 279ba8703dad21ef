-- The begin, and what follows it.
use Rattle.std.proofs.Common.{refl}
use Rattle.sal_update.proofs.Onward.{tried_then}
use Rattle.sal_update.proofs.retry.try_once.Goals as goal

pub returns-in-Ok-clause-tried : goal.returns-in-Ok-clause-tried
returns-in-Ok-clause-tried g c =
    tried_then g.W.Work.gives c.args.tries c.args.seat.now.view c.begin.new.seat.view c.worked.new.seat.view c.args.work.now c.worked.new.work c.in-Ok.tx c.worked.result c.in-Ok.ensures.began c.worked.ensures.worked

pub returns-in-Err-clause-tried : goal.returns-in-Err-clause-tried
returns-in-Err-clause-tried g c = (c.in-Err.ensures.began, refl)
