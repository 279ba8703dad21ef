use Rattle.sal_build.proofs.WholeTables.{tables_are_tables}
use Rattle.sal_build.proofs.laws.tables_are_tables.Goals as goal

pub returns : goal.returns
returns c = tables_are_tables
