use Rattle.sal_pathtext.proofs.WrittenSteps.{written-reads, written-apart}
use Rattle.sal_pathtext.proofs.laws.written_paths_read.Goals as goal

pub returns-clause-path : goal.returns-clause-path
returns-clause-path c = written-reads

pub returns-clause-apart : goal.returns-clause-apart
returns-clause-apart c = written-apart
