use Rattle.sal_io.proofs.Transfers.{left-from_TakenBy, past-from_TakenBy}
use Rattle.sal_io.proofs.laws.reading_laws.Goals as goal

pub returns-clause-ok : goal.returns-clause-ok
returns-clause-ok c = left-from_TakenBy

pub returns-clause-too_long : goal.returns-clause-too_long
returns-clause-too_long c = past-from_TakenBy
