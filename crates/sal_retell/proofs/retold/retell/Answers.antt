-- The course gives the answers of the log.
use Rattle.sal_retell.proofs.Courses.{retold_by}
use Rattle.sal_retell.proofs.retold.retell.Goals as goal

pub returns : goal.returns
returns c world count whole =
    retold_by world c.args.log.now c.args.outcomes.now c.args.domains c.in_ok-course.course c.retold_by.result count whole c.in_ok-course.ensures c.retold_by.ensures.replies c.retold_by.ensures.sent
