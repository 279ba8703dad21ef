-- The types of a schema are good.
use Rattle.std.proofs.Common.{◌≡◌, ℕ, IsTrue, Some, ap, ◌∙◌}
use Rattle.std.specs.List.{slice_get}
use Rattle.sal_restrict.specs.declared.yang_type.YangType.{YangType}
use Rattle.sal_schema.specs.declared.table.SchemaTable.{SchemaTable}
use Rattle.sal_schema.specs.Valid.{IsTable, is_good_type}
use Rattle.sal_schema.proofs.Facts.{slice_get_some}
use Rattle.sal_schema.proofs.Numbered.{list_all-at}

pub type_is_good : (table : SchemaTable) (ty : ℕ) (here : YangType) → IsTable table → slice_get table.types ty ≡ Some here → IsTrue (is_good_type table here)
type_is_good table ty here good e =
    let (inside, same) = slice_get_some table.types ty here e in
    let all = list_all-at (is_good_type table) table.types ty here good.types inside in
    ap (is_good_type table) same ∙ all
