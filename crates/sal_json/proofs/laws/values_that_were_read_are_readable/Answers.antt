use Rattle.sal_json.proofs.ReadBack.{reads_back, key_reads_back}
use Rattle.sal_json.proofs.laws.values_that_were_read_are_readable.Goals as goal

pub returns-clause-json : goal.returns-clause-json
returns-clause-json c = reads_back

pub returns-clause-key : goal.returns-clause-key
returns-clause-key c = key_reads_back
