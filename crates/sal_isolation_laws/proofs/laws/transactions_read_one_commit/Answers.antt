use Rattle.sal_isolation_laws.proofs.Stacked.{snapshots_are_read}
use Rattle.sal_isolation_laws.proofs.laws.transactions_read_one_commit.Goals as goal

pub returns : goal.returns
returns c = snapshots_are_read
