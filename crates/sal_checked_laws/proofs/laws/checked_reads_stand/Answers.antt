use Rattle.sal_checked_laws.proofs.Stand.{played_reads_stand}
use Rattle.sal_checked_laws.proofs.Submitted.{reads_are_submitted}
use Rattle.sal_checked_laws.proofs.laws.checked_reads_stand.Goals as goal

pub returns-clause-submitted : goal.returns-clause-submitted
returns-clause-submitted c = reads_are_submitted c.reads_are_known.ensures.looks c.reads_are_known.ensures.grow

pub returns-clause-stand : goal.returns-clause-stand
returns-clause-stand c = played_reads_stand c.reads_are_known.ensures.looks c.reads_are_known.ensures.grow c.checked_runs_are_serialisable.ensures.read
