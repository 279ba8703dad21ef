-- Operations under a version of a schema, and under each later one.
use Rattle.std.specs.Prelude.{◌≡◌, List}
use Rattle.sal_types.specs.declared.row.Row.{Row}
use Rattle.sal_rows.specs.declared.op.Op.{Op}
use Rattle.sal_schema.specs.declared.table.SchemaTable.{SchemaTable}
use Rattle.sal_schema.specs.Valid.{IsTable}
use Rattle.sal_schema.specs.Versions.{Extends}
use Rattle.sal_rules.specs.Refusals.{refusal}
use Rattle.sal_rules.specs.Writes.{IsForSchema}

-- An operation for a version of a schema is an operation for each later version.
abbrev pub OperationsStay : Type 0
OperationsStay = (newer older : SchemaTable) (op : Op) → IsTable older → Extends newer older → IsForSchema older op → IsForSchema newer op

-- The later version refuses it over the same trees, for the same cause.
abbrev pub RefusalsStay : Type 0
RefusalsStay = (newer older : SchemaTable) (tree : List Row) (op : Op) → IsTable older → Extends newer older → IsForSchema older op → refusal newer tree op ≡ refusal older tree op
