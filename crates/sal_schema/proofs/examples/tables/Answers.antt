use Rattle.sal_schema.proofs.ExampleTables.{topology-IsTable, mixed-IsTable, messages-IsTable}
use Rattle.sal_schema.proofs.examples.tables.Goals as goal

pub returns-clause-topology : goal.returns-clause-topology
returns-clause-topology c = topology-IsTable

pub returns-clause-mixed : goal.returns-clause-mixed
returns-clause-mixed c = mixed-IsTable

pub returns-clause-messages : goal.returns-clause-messages
returns-clause-messages c = messages-IsTable
