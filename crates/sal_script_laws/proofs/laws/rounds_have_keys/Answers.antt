use Rattle.sal_script_laws.proofs.Summed.{keys_differ, short}
use Rattle.sal_script_laws.proofs.laws.rounds_have_keys.Goals as goal

pub returns-clause-differ : goal.returns-clause-differ
returns-clause-differ c = keys_differ

pub returns-clause-short : goal.returns-clause-short
returns-clause-short c = short
