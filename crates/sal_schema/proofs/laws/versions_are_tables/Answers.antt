use Rattle.sal_schema.proofs.Grown.{on_is_table, on_extends}
use Rattle.sal_schema.proofs.laws.versions_are_tables.Goals as goal

pub returns-clause-table : goal.returns-clause-table
returns-clause-table c = on_is_table

pub returns-clause-extends : goal.returns-clause-extends
returns-clause-extends c = on_extends
