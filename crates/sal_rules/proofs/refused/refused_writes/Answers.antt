use Rattle.sal_rules.proofs.DepotTable.{depot-IsTable}
use Rattle.sal_rules.proofs.refused.refused_writes.Goals as goal

pub returns-clause-table : goal.returns-clause-table
returns-clause-table c = depot-IsTable
