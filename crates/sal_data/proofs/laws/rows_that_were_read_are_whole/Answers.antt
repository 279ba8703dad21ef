use Rattle.sal_data.proofs.ReadWhole.{reads_whole}
use Rattle.sal_data.proofs.TreeParts.{reads_again}
use Rattle.sal_data.proofs.laws.rows_that_were_read_are_whole.Goals as goal

pub returns-clause-whole : goal.returns-clause-whole
returns-clause-whole c = reads_whole

pub returns-clause-again : goal.returns-clause-again
returns-clause-again c = reads_again
