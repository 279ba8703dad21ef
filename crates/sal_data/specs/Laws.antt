-- What is written reads as it was.
use Rattle.std.specs.Prelude.{◌≡◌, ℕ, ◌≤◌, ⊤, not, ◌||◌, List, [], ◌∷◌, ◌++◌, length, Option, Some, None, Ok, is_some, IsTrue}
use Rattle.std.specs.List.{All}
use Rattle.serde_json.specs.Data.{Data, null, boolean, number, string, array, object, Items, no_items, item, Members, no_members, member}
use Rattle.serde_json.specs.Find.{get_member}
use Rattle.sal_types.specs.declared.value.Value.{Value}
use Rattle.sal_types.specs.declared.value.Cell.{Cell}
use Rattle.sal_types.specs.declared.value.Cell.TheVariants.{Mark, Leaf}
use Rattle.sal_types.specs.declared.value.Step.{Step}
use Rattle.sal_types.specs.declared.value.Step.TheVariants.{Item}
use Rattle.sal_types.specs.declared.row.Row.{Row}
use Rattle.sal_types.specs.Tree.{cell, under, IsAscending}
use Rattle.sal_schema.specs.declared.table.SchemaTable.{SchemaTable}
use Rattle.sal_schema.specs.Fitting.{fits, has_own_row}
use Rattle.sal_schema.specs.Paths.{fits_path, last_step, node_of}
use Rattle.sal_schema.specs.Valid.{IsTable}
pub use Rattle.sal_json_laws.specs.Json.{IsJson, AreJson, HasJson}
use Rattle.sal_data.specs.Read.{node_scalar, read_data}
use Rattle.sal_data.specs.Written.{scalar_json, write_data}

-- ---- values

-- the JSON that is written for a value of this leaf or leaf-list reads as the value
abbrev pub IsReadable : SchemaTable → ℕ → Value → Type 0
IsReadable table n value = node_scalar table n (scalar_json table n value) ≡ Ok value

abbrev pub cell_values : Cell → List Value
cell_values Mark = []
cell_values (Leaf value) = value ∷ []

abbrev pub step_values : Option Step → List Value
step_values (Some (Item value)) = value ∷ []
step_values step = []

-- the value of a leaf, and that of an entry of a leaf-list
abbrev pub row_values : Row → List Value
row_values row = cell_values row.cell ++ step_values (last_step row.path)

abbrev pub HasReadable : SchemaTable → Row → Type 0
HasReadable table row = (n : ℕ) → node_of row.path ≡ Some n → All (IsReadable table n) (row_values row)

-- ---- rows

-- the rows of a tree at and below the path, with one at the path itself if its node has its own row
pub record IsWhole (table : SchemaTable) (path : List Step) (rows : List Row) : Type 0 where
  pub ascending : IsAscending rows
  pub fitting : IsTrue (fits table path rows)
  pub own : IsTrue (not (has_own_row table path) || is_some (cell rows path))
  pub short : All (λ (row : Row). length row.path ≤ 32) rows
  pub readable : All (HasReadable table) rows

-- The JSON value of the rows at a path reads there as these rows.
abbrev pub ReadsAsWritten : Type 0
ReadsAsWritten =
    (table : SchemaTable) → IsTable table → (path : List Step) → IsTrue (fits_path table path) → (rows : List Row) → IsWhole table path rows
    → read_data table path (write_data table path rows) ≡ Ok rows

-- The JSON value of a tree at a path reads there as the tree's rows at and below the path.
abbrev pub TreesReadAsWritten : Type 0
TreesReadAsWritten =
    (table : SchemaTable) → IsTable table → (tree : List Row) → IsWhole table [] tree → (path : List Step) → IsTrue (fits_path table path)
    → IsTrue (not (has_own_row table path) || is_some (cell tree path)) → read_data table path (write_data table path tree) ≡ Ok (under tree path)

-- ---- JSON values

-- The rows that are read at a path are whole.
abbrev pub ReadsWhole : Type 0
ReadsWhole =
    (table : SchemaTable) → IsTable table → (path : List Step) → IsTrue (fits_path table path) → length path ≤ 32 → (json : Data) → IsJson json → (rows : List Row)
    → read_data table path json ≡ Ok rows → IsWhole table path rows

-- The JSON value of rows that were read reads as the same rows.
abbrev pub ReadsAgain : Type 0
ReadsAgain =
    (table : SchemaTable) → IsTable table → (path : List Step) → IsTrue (fits_path table path) → length path ≤ 32 → (json : Data) → IsJson json → (rows : List Row)
    → read_data table path json ≡ Ok rows → read_data table path (write_data table path rows) ≡ Ok rows
