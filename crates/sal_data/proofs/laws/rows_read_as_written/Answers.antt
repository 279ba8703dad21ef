use Rattle.sal_data.proofs.ReadsAgain.{reads_as_written}
use Rattle.sal_data.proofs.TreeParts.{trees_read_as_written}
use Rattle.sal_data.proofs.laws.rows_read_as_written.Goals as goal

pub returns-clause-rows : goal.returns-clause-rows
returns-clause-rows c = reads_as_written

pub returns-clause-trees : goal.returns-clause-trees
returns-clause-trees c = trees_read_as_written
