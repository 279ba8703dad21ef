use Rattle.sal_build.proofs.Counted.{counted}
use Rattle.sal_build.proofs.schema.build_owned.Goals as goal

pub table_of_owned-requires : goal.table_of_owned-requires
table_of_owned-requires c = counted c.args.stmts.items c.requires

pub from_table-requires : goal.from_table-requires
from_table-requires c = c.tables_are_tables.ensures c.args.stmts.items c.in_ok-table.table c.requires c.in_ok-table.ensures
