use Rattle.std.proofs.Common.{map}
use Rattle.sal_script.specs.CheckedReads.{checked_step}
use Rattle.sal_script.specs.Moves.{moves_of}
use Rattle.sal_script.proofs.CheckedReads.{mapped_more}
use Rattle.sal_script.proofs.checked.with_reads.Goals as goal

pub loop-program-preserved : goal.loop-program-preserved
loop-program-preserved c =
    let l = c.loop-program in
    mapped_more (map checked_step) moves_of c.deref_mut-program-items.result.now l.program-items l.program-index _ c.check_program.new.program c.loop-program-test.true c.check_program.ensures l.invariant
