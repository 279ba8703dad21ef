-- One entry more.
use Rattle.sal_retell.proofs.Telling.{at_next}
use Rattle.sal_retell.proofs.retold.course_of.Goals as goal

pub loop-entry-preserved : goal.loop-entry-preserved
loop-entry-preserved c =
    at_next c.args.domains c.args.log.now c.args.outcomes.now c.loop-entry.entry-index c.entry-item.result c.loop-entry.course c.tell.new.self c.loop-entry-test.true c.entry-item.is c.in_ok-tell.ensures c.loop-entry.invariant
