-- How values are written: one spelling for each (RFC 7951 section 6).
use Rattle.std.specs.Prelude.{ℕ, ◌==◌, Bool, true, false, List, [], Option, Some, None, codes, decimal, if◌then◌else◌}
use Rattle.std.specs.Fmt.{signed_decimal}
use Rattle.std.specs.List.{slice_get}
use Rattle.std.specs.Option.{option_map_or}
use Rattle.base64.specs.Engines.{standard}
use Rattle.base64.specs.GeneralPurpose.{encode_of}
use Rattle.serde_json.specs.Data.{Data, null, boolean, number, string, array, no_items, item, unsigned}
use Rattle.serde_json.specs.Find.{of_integer}
use Rattle.sal_types.specs.declared.value.Atom.{Atom}
use Rattle.sal_types.specs.declared.value.Atom.TheVariants.{Signed, Unsigned, Dec, Text, Bool as BoolAtom, Enum, Bits, Bin, Ident, Empty}
use Rattle.sal_types.specs.declared.value.Value.{Value}
use Rattle.sal_restrict.specs.declared.yang_type.YangType.{YangType, out-YangType}
use Rattle.sal_restrict.specs.declared.yang_type.YangType.TheOpen.{YangType-F}
use Rattle.sal_schema.specs.declared.table.SchemaTable.{SchemaTable}
use Rattle.sal_json.specs.Numerals.{dec_text}
use Rattle.sal_json.specs.Named.{name_with, bits_text, identity_text}

-- ---- of a type that is no union

abbrev pub enum_text : YangType-F YangType → ℕ → List ℕ
enum_text (YangType-F.Enum names places) place = name_with names places place
enum_text layer place = []

abbrev pub set_text : YangType-F YangType → ℕ → List ℕ
set_text (YangType-F.Bits names positions) set = bits_text names positions set
set_text layer set = []

abbrev pub bool_text : Bool → List ℕ
bool_text true = codes "true"
bool_text false = codes "false"

-- the text of an atom, where `m` is the module of its leaf
abbrev pub atom_text : SchemaTable → ℕ → YangType-F YangType → Atom → List ℕ
atom_text table m layer (Signed z) = signed_decimal z
atom_text table m layer (Unsigned n) = decimal n
atom_text table m layer (Dec units digits) = dec_text digits units
atom_text table m layer (Text t) = t
atom_text table m layer (BoolAtom b) = bool_text b
atom_text table m layer (Enum place) = enum_text layer place
atom_text table m layer (Bits set) = set_text layer set
atom_text table m layer (Bin bytes) = encode_of standard bytes
atom_text table m layer (Ident i) = identity_text table m i
atom_text table m layer Empty = []

-- integers of 64 bits are texts
abbrev pub is_wide : YangType-F YangType → Bool
is_wide (YangType-F.Int bits sign range) = bits == 64
is_wide layer = false

-- its JSON: a number for the smaller integers, `true`, `false` and `[null]`, and for the others their text
abbrev pub atom_json : SchemaTable → ℕ → YangType-F YangType → Atom → Data
atom_json table m layer (Signed z) = if is_wide layer then string (signed_decimal z) else number (of_integer z)
atom_json table m layer (Unsigned n) = if is_wide layer then string (decimal n) else number (unsigned n)
atom_json table m layer (BoolAtom b) = boolean b
atom_json table m layer Empty = array (item null no_items)
atom_json table m layer atom = string (atom_text table m layer atom)

-- ---- of any type

-- the type of a value: that of its member, or the type itself
abbrev pub layer_for : YangType-F YangType → ℕ → Option (YangType-F YangType)
layer_for (YangType-F.Union members) k = option_map_or (λ member. Some (out-YangType member)) (slice_get members k) None
layer_for layer k = Some layer

abbrev pub type_text_of : SchemaTable → YangType → ℕ → Value → List ℕ
type_text_of table ty m value = option_map_or (λ layer. atom_text table m layer value.atom) (layer_for (out-YangType ty) value.member) []

abbrev pub type_json_of : SchemaTable → YangType → ℕ → Value → Data
type_json_of table ty m value = option_map_or (λ layer. atom_json table m layer value.atom) (layer_for (out-YangType ty) value.member) null

-- the text of a value of the type `ty`, where `m` is the module of its leaf
abbrev pub text_of : SchemaTable → ℕ → ℕ → Value → List ℕ
text_of table ty m value = option_map_or (λ t. type_text_of table t m value) (slice_get table.types ty) []

-- its JSON
abbrev pub json_of : SchemaTable → ℕ → ℕ → Value → Data
json_of table ty m value = option_map_or (λ t. type_json_of table t m value) (slice_get table.types ty) null
