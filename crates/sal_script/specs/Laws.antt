-- The values of a script fit the schema.
use Rattle.std.specs.Prelude.{◌≡◌, ℕ, List, [], Some, Ok, IsTrue, slice_get}
use Rattle.sal_types.specs.declared.value.Store.{Store}
use Rattle.sal_types.specs.declared.value.Step.{Step}
use Rattle.sal_types.specs.declared.row.Row.{Row}
use Rattle.sal_rows.specs.declared.op.Act.{Act}
use Rattle.sal_schema.specs.declared.table.SchemaTable.{SchemaTable}
use Rattle.sal_schema.specs.Valid.{IsTable}
use Rattle.sal_pathtext.specs.Read.{read_path}
use Rattle.sal_data.specs.Laws.{IsWhole}
use Rattle.sal_data.specs.Read.{read_data}
use Rattle.sal_rules.specs.Writes.{IsForSchema}
use Rattle.sal_script.specs.Script.{DeviceParts, Parts, script_of}
use Rattle.sal_script.specs.JsonScripts.{IsJsonScript, is_json_act}
use Rattle.sal_script.specs.Play.{DataAct, act_of, op_of}

-- For any bytes: the values of a script that is read from them are JSON as texts have it.
abbrev pub ScriptsAreJson : Type 0
ScriptsAreJson = (bytes : List ℕ) (parts : Parts) → script_of bytes ≡ Ok parts → IsJsonScript parts

-- the rows that the openings of a domain denote are whole: they fit the schema, and their JSON values read as the same
-- rows
abbrev pub HasWholeOpenings : SchemaTable → DeviceParts → Type 0
HasWholeOpenings table device = (rows : List Row) → (read_data table [] device.config ≡ Ok rows → IsWhole table [] rows) × (read_data table [] device.operational ≡ Ok rows → IsWhole table [] rows)

-- domain 0 of a script
abbrev pub own : Parts → DeviceParts
own parts = record { modules = parts.modules; config = parts.config; operational = parts.operational }

-- So it is with domain 0, and with each device.
abbrev pub OpeningsAreWhole : Type 0
OpeningsAreWhole =
    (table : SchemaTable) → IsTable table → (bytes : List ℕ) (parts : Parts) → script_of bytes ≡ Ok parts
    → HasWholeOpenings table (own parts) × ((i : ℕ) (device : DeviceParts) → slice_get parts.devices i ≡ Some device → HasWholeOpenings table device)

-- An operation whose path and value were read, the value as JSON that a text has, is one for the schema.
abbrev pub WritesAreForSchema : Type 0
WritesAreForSchema =
    (table : SchemaTable) → IsTable table → (store : Store) (text : List ℕ) (path : List Step) → read_path table text ≡ Ok path → (data_act : DataAct) → IsTrue (is_json_act data_act)
    → (act : Act) → act_of table path data_act ≡ Ok act → IsForSchema table (op_of store path act)
