use Rattle.sal_script.specs.CheckedReads.{checked_step}
use Rattle.sal_script.specs.Moves.{move_of}
use Rattle.sal_script.proofs.CheckedReads.{mapped_more}
use Rattle.sal_script.proofs.checked.check_program.Goals as goal

pub loop-step-preserved : goal.loop-step-preserved
loop-step-preserved c =
    let l = c.loop-step in
    mapped_more checked_step move_of c.deref_mut-step-items.result.now l.step-items l.step-index _ c.check_step.new.step c.loop-step-test.true c.check_step.ensures l.invariant
