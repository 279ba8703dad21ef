use Rattle.sal_build.proofs.Counted.{counted}
use Rattle.sal_build.proofs.schema.build.Goals as goal

pub table_of_modules-requires : goal.table_of_modules-requires
table_of_modules-requires c = counted c.args.stmts.now c.requires

pub from_table-requires : goal.from_table-requires
from_table-requires c = c.tables_are_tables.ensures c.args.stmts.now c.in_ok-table.table c.requires c.in_ok-table.ensures
