use Rattle.sal_build.proofs.Extending.{first_is_table, first_is_built}
use Rattle.sal_build.proofs.laws.first_versions_are_tables.Goals as goal

pub returns-clause-table : goal.returns-clause-table
returns-clause-table c = first_is_table

pub returns-clause-built : goal.returns-clause-built
returns-clause-built c = first_is_built
