-- Which operations are for a schema.
use Rattle.std.specs.Prelude.{IsTrue, IsFalse}
use Rattle.sal_rows.specs.declared.op.Op.{Op}
use Rattle.sal_rows.specs.Apply.{rows_of_act}
use Rattle.sal_schema.specs.declared.table.SchemaTable.{SchemaTable}
use Rattle.sal_schema.specs.Fitting.{fits, is_in_message}
use Rattle.sal_schema.specs.Paths.{fits_path}

-- the operation is one for the schema: its path and its rows fit, outside of RPCs and notifications
pub record IsForSchema (table : SchemaTable) (op : Op) : Type 0 where
  pub path : IsTrue (fits_path table op.path)
  pub data_path : IsFalse (is_in_message table op.path)
  pub rows : IsTrue (fits table op.path (rows_of_act op.act))
