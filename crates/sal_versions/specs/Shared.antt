-- Schemas that are shared.
use Rattle.std.specs.Prelude.{List, map}
use Rattle.std.specs.declared.alloc.Global.{Global}
use Rattle.std.specs.declared.sync.Arc.{Arc}
use Rattle.sal_schema.specs.declared.table.SchemaTable.{SchemaTable}

-- their tables
abbrev pub tables_in : List (Arc SchemaTable Global) → List SchemaTable
tables_in schemas = map (λ (s : Arc SchemaTable Global). s.value) schemas
