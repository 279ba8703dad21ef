-- Laws of texts of paths: they read back.
use Rattle.std.specs.Prelude.{◌≡◌, ℕ, Bool, true, not, ◌≤◌, List, [], ◌∷◌, length, Option, None, Ok, IfSome, ⊤}
use Rattle.base64.specs.GeneralPurpose.{IsBytes}
use Rattle.sal_types.specs.declared.value.Value.{Value}
use Rattle.sal_types.specs.declared.value.Step.{Step}
use Rattle.sal_types.specs.declared.value.Step.TheVariants.{Node, Key, Item}
use Rattle.sal_schema.specs.declared.table.SchemaTable.{SchemaTable}
use Rattle.sal_schema.specs.Kinds.{is_message}
use Rattle.sal_schema.specs.Paths.{fits_path}
use Rattle.sal_schema.specs.Table.{is_kind, keys_of}
use Rattle.sal_schema.specs.Valid.{IsTable}
use Rattle.sal_pathtext.specs.Nodes.{value_of, value_text}
use Rattle.sal_pathtext.specs.Read.{read_path}
use Rattle.sal_pathtext.specs.Written.{behind, written}

-- ---- readable paths

-- the text that is written for this value of a leaf or leaf-list reads as this value
abbrev pub IsReadable : SchemaTable → ℕ → Value → Type 0
IsReadable table leaf value = value_of table leaf (value_text table leaf value) ≡ Ok value

-- each value is readable as one of its leaf
abbrev pub AreReadable : SchemaTable → List ℕ → List Value → Type 0
AreReadable table (leaf ∷ leafs) (value ∷ values) = IsReadable table leaf value × AreReadable table leafs values
AreReadable table leafs values = ⊤

-- so are the values of a step below this node: those of the keys of a list, or that of a leaf-list
abbrev pub IsReadableStep : SchemaTable → Option ℕ → Step → Type 0
IsReadableStep table here (Node n) = ⊤
IsReadableStep table here (Key values) = IfSome here (λ n. AreReadable table (keys_of table n) values)
IsReadableStep table here (Item value) = IfSome here (λ n. IsReadable table n value)

abbrev pub AreReadableSteps : SchemaTable → Option ℕ → List Step → Type 0
AreReadableSteps table here [] = ⊤
AreReadableSteps table here (step ∷ steps) = IsReadableStep table here step × AreReadableSteps table (behind here step) steps

-- all values of the path are readable, each as one of its leaf
abbrev pub IsReadablePath : SchemaTable → List Step → Type 0
IsReadablePath table path = AreReadableSteps table None path

-- ---- paths of data

-- it does not begin with an input, an output or a notification
abbrev pub begins_with_data : SchemaTable → List Step → Bool
begins_with_data table (Node n ∷ steps) = not (is_kind is_message table n)
begins_with_data table path = true

-- a path of data: it fits the schema, is not inside a message, and has no more steps than a path may have
pub record IsDataPath (table : SchemaTable) (path : List Step) : Type 0 where
  pub fits : fits_path table path ≡ true
  pub of_data : begins_with_data table path ≡ true
  pub short : length path ≤ 32

-- ---- the laws

-- The text that is written for a path of data with readable values denotes this path.
abbrev pub WrittenReads : Type 0
WrittenReads =
    (table : SchemaTable) → IsTable table → (path : List Step) → IsDataPath table path → IsReadablePath table path
    → read_path table (written table path) ≡ Ok path

-- Two such paths with one text are equal.
abbrev pub WrittenApart : Type 0
WrittenApart =
    (table : SchemaTable) → IsTable table → (path other : List Step) → IsDataPath table path → IsDataPath table other
    → IsReadablePath table path → IsReadablePath table other → written table path ≡ written table other → path ≡ other

-- A path that was read is a path of data.
abbrev pub ReadIsData : Type 0
ReadIsData = (table : SchemaTable) → IsTable table → (text : List ℕ) (path : List Step) → read_path table text ≡ Ok path → IsDataPath table path

-- All values of a path that was read from a text of bytes are readable: the text of each reads as it.
abbrev pub ReadIsReadable : Type 0
ReadIsReadable =
    (table : SchemaTable) → IsTable table → (text : List ℕ) (path : List Step) → IsBytes text → read_path table text ≡ Ok path
    → IsReadablePath table path

-- A path that was read from a text of bytes, then written and read again, is the same path.
abbrev pub ReadsAgain : Type 0
ReadsAgain =
    (table : SchemaTable) → IsTable table → (text : List ℕ) (path : List Step) → IsBytes text → read_path table text ≡ Ok path
    → read_path table (written table path) ≡ Ok path
