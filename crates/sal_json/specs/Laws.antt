-- Laws of each value that is read.
use Rattle.std.specs.Prelude.{◌≡◌, ℕ, Bool, true, false, List, Some, Ok}
use Rattle.std.specs.List.{slice_get}
use Rattle.std.specs.Option.{option_map_or}
use Rattle.base64.specs.GeneralPurpose.{IsBytes}
use Rattle.serde_json.specs.Data.{Data}
use Rattle.serde_json.specs.Find.{as_str}
use Rattle.sal_types.specs.declared.value.Value.{Value}
use Rattle.sal_schema.specs.declared.table.SchemaTable.{SchemaTable}
use Rattle.sal_schema.specs.Valid.{IsTable}
use Rattle.sal_schema.specs.Values.{is_of_type}
use Rattle.sal_json.specs.Read.{scalar_of, text_scalar_of}
use Rattle.sal_json.specs.Written.{json_of, text_of}

-- the value is of the type of this number
abbrev pub is_of : SchemaTable → ℕ → Value → Bool
is_of table ty value = option_map_or (λ t. is_of_type table t value) (slice_get table.types ty) false

-- a value that was read is of its type
abbrev pub IsOfItsType : Type 0
IsOfItsType = (table : SchemaTable) (ty m : ℕ) (json : Data) (value : Value) → scalar_of table ty m json ≡ Ok value → is_of table ty value ≡ true

abbrev pub IsOfItsTypeAsKey : Type 0
IsOfItsTypeAsKey = (table : SchemaTable) (ty m : ℕ) (text : List ℕ) (value : Value) → text_scalar_of table ty m text ≡ Ok value → is_of table ty value ≡ true

-- ---- readable values

-- the text of a JSON value is bytes
abbrev pub HasBytes : Data → Type 0
HasBytes json = (t : List ℕ) → as_str json ≡ Some t → IsBytes t

-- the JSON that is written for a value that was read reads as this value
abbrev pub ReadsBack : Type 0
ReadsBack =
    (table : SchemaTable) → IsTable table → (ty m : ℕ) (json : Data) (value : Value) → HasBytes json → scalar_of table ty m json ≡ Ok value
    → scalar_of table ty m (json_of table ty m value) ≡ Ok value

-- so does the key text that is written for a value that was read from a key text
abbrev pub ReadsBackAsKey : Type 0
ReadsBackAsKey =
    (table : SchemaTable) → IsTable table → (ty m : ℕ) (text : List ℕ) (value : Value) → IsBytes text → text_scalar_of table ty m text ≡ Ok value
    → text_scalar_of table ty m (text_of table ty m value) ≡ Ok value
