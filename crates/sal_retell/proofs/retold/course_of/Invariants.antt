use Rattle.sal_retell.specs.Light.{IsAt}
use Rattle.sal_retell.proofs.retold.course_of.Given as goal

abbrev pub invariant-loop-entry : goal.invariant-loop-entry
invariant-loop-entry l = IsAt l.domains l.log l.outcomes l.entry-index l.course
