-- All that is in the grammar is read.
use Rattle.sal_stmt.proofs.Readable.{spelled_is_read}
use Rattle.sal_stmt.proofs.laws.what_is_spelled_is_read.Goals as goal

pub returns : goal.returns
returns c = spelled_is_read
