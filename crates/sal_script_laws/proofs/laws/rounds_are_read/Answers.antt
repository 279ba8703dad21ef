use Rattle.sal_script_laws.proofs.ReadPath.{path_is_read}
use Rattle.sal_script_laws.proofs.ReadValue.{data_is_read}
use Rattle.sal_script_laws.proofs.laws.rounds_are_read.Goals as goal

pub returns-clause-path : goal.returns-clause-path
returns-clause-path c = path_is_read

pub returns-clause-rows : goal.returns-clause-rows
returns-clause-rows c = data_is_read
