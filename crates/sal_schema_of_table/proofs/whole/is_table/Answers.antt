use Rattle.sal_schema_of_table.proofs.Parted.{says}
use Rattle.sal_schema_of_table.proofs.whole.is_table.Goals as goal

pub returns : goal.returns
returns c = says c.args.table.now c.passes.result c.passes.ensures
