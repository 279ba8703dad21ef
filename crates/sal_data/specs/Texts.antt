-- The rows of a text. A JSON value that was read from a text needs no condition. For one that a program made itself, the laws of
-- `Laws` require that each name occurs once in its object, and that its strings are bytes (`IsJson`).
use Rattle.std.specs.Prelude.{◌≡◌, ℕ, ◌≤◌, List, length, Some, Ok, IsTrue, IsUtf8}
use Rattle.serde_json.specs.Data.{Data}
use Rattle.serde_json.specs.Read.{read}
use Rattle.sal_types.specs.declared.value.Step.{Step}
use Rattle.sal_types.specs.declared.row.Row.{Row}
use Rattle.sal_schema.specs.declared.table.SchemaTable.{SchemaTable}
use Rattle.sal_schema.specs.Paths.{fits_path}
use Rattle.sal_schema.specs.Valid.{IsTable}
use Rattle.sal_data.specs.Laws.{IsWhole}
use Rattle.sal_data.specs.Read.{read_data}
use Rattle.sal_data.specs.Written.{write_data}

-- The rows that are read at a path from the value of a text are whole, whatever the text.
abbrev pub TextsReadWhole : Type 0
TextsReadWhole =
    (table : SchemaTable) → IsTable table → (path : List Step) → IsTrue (fits_path table path) → length path ≤ 32 → (text : List ℕ) → IsUtf8 text → (json : Data)
    → read text ≡ Some json → (rows : List Row) → read_data table path json ≡ Ok rows → IsWhole table path rows

-- The JSON value of these rows reads as the same rows.
abbrev pub TextsReadAgain : Type 0
TextsReadAgain =
    (table : SchemaTable) → IsTable table → (path : List Step) → IsTrue (fits_path table path) → length path ≤ 32 → (text : List ℕ) → IsUtf8 text → (json : Data)
    → read text ≡ Some json → (rows : List Row) → read_data table path json ≡ Ok rows → read_data table path (write_data table path rows) ≡ Ok rows
