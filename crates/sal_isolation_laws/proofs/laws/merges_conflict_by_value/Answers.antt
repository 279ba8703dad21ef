use Rattle.sal_isolation_laws.proofs.ByValue.{merges_conflict_by_value}
use Rattle.sal_isolation_laws.proofs.laws.merges_conflict_by_value.Goals as goal

pub returns : goal.returns
returns c = merges_conflict_by_value
