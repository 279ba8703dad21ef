-- Properties of a node by its number, in addition to those in its line.
use Rattle.std.specs.Prelude.{ℕ, List, [], ◌∷◌, ◌++◌}
use Rattle.std.specs.Option.{option_map_or}
use Rattle.sal_schema.specs.declared.table.SchemaTable.{SchemaTable}
use Rattle.sal_schema.specs.Table.{module_of, module_name, name_of}

-- the name of a node's module
abbrev pub own_module : SchemaTable → ℕ → List ℕ
own_module table n = option_map_or (module_name table) (module_of table n) []

-- the name of a node with its module
abbrev pub full_name : SchemaTable → ℕ → List ℕ
full_name table n = own_module table n ++ 58 ∷ name_of table n
