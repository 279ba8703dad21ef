-- Those of all versions.
use Rattle.std.proofs.Common.{List, subst}
use Rattle.std.specs.Prelude.{All}
use Rattle.std.specs.declared.alloc.Global.{Global}
use Rattle.std.specs.declared.sync.Arc.{Arc}
use Rattle.sal_schema.specs.declared.table.SchemaTable.{SchemaTable}
use Rattle.sal_schema.specs.Valid.{IsTable}
use Rattle.sal_commit.specs.Versions.{tables_of}
use Rattle.sal_hub.proofs.devices.has_tables.Goals as goal

pub returns : goal.returns
returns c = record {
  first = subst IsTable c.deref.ensures c.is_table.ensures;
  upgrades = subst (λ (vs : List (Arc SchemaTable Global)). All IsTable (tables_of vs)) c.deref-2.ensures.value c.are_tables.ensures;
}
