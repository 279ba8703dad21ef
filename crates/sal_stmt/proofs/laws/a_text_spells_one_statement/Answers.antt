-- Both are what is read.
use Rattle.sal_stmt.proofs.Readable.{spelled_once}
use Rattle.sal_stmt.proofs.laws.a_text_spells_one_statement.Goals as goal

pub returns : goal.returns
returns c = spelled_once
