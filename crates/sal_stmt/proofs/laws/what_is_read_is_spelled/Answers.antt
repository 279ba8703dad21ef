-- The grammar has no less than the reader takes.
use Rattle.sal_stmt.proofs.Spelled.{read_is_spelled}
use Rattle.sal_stmt.proofs.laws.what_is_read_is_spelled.Goals as goal

pub returns : goal.returns
returns c = read_is_spelled
