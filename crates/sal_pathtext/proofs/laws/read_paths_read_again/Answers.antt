use Rattle.sal_pathtext.proofs.ReadPaths.{read-is_data, read-is_readable, reads-again}
use Rattle.sal_pathtext.proofs.laws.read_paths_read_again.Goals as goal

pub returns-clause-of_data : goal.returns-clause-of_data
returns-clause-of_data c = read-is_data

pub returns-clause-readable : goal.returns-clause-readable
returns-clause-readable c = read-is_readable

pub returns-clause-again : goal.returns-clause-again
returns-clause-again c = reads-again
