-- The submission, and what follows it.
use Rattle.sal_history.specs.declared.call.Call.TheVariants.{Submit}
use Rattle.sal_update.proofs.Onward.{submitted_then}
use Rattle.sal_update.proofs.Turns.{missed_or}
use Rattle.sal_update.proofs.retry.submitted.Goals as goal

pub returns-in-Ok-clause-submitted : goal.returns-in-Ok-clause-submitted
returns-in-Ok-clause-submitted g c =
    submitted_then c.args.seat.now.view c.submit.new.seat.view c.settled.new.seat.view c.args.tx c.in-Ok.receipt c.settled.result c.in-Ok.ensures.turn c.settled.ensures.settled

pub returns-clause-submitted : goal.returns-clause-submitted
returns-clause-submitted g c = missed_or c.args.seat.now.view c.submit.new.seat.view (Submit c.args.tx.begun.place c.args.tx.changes) c.in-Err.fault c.args.tx _ c.in-Err.ensures.turn
