-- Which value a JSON value or a key text denotes, or why it denotes none (RFC 7951 section 6, RFC 7950 section 9).
use Rattle.std.specs.Prelude.{ℕ, ◌+◌, ◌==◌, ℤ, pos, Bool, true, false, not, List, [], ◌∷◌, length, Option, Some, None, option_and_then, is_some, Result, Ok, Err, codes, if◌then◌else◌}
use Rattle.std.specs.List.{list_all, slice_get}
use Rattle.std.specs.Option.{option_map_or}
use Rattle.std.specs.Str.{chars}
use Rattle.base64.specs.Engines.{standard}
use Rattle.base64.specs.GeneralPurpose.{decoded_of}
use Rattle.serde_json.specs.Data.{Data, Items, no_items, item}
use Rattle.serde_json.specs.Find.{as_null, as_bool, as_number, as_str, as_array, as_integer}
use Rattle.sal_types.specs.declared.value.Atom.{Atom}
use Rattle.sal_types.specs.declared.value.Atom.TheVariants.{Text, Bool as BoolAtom, Bin, Empty}
use Rattle.sal_types.specs.declared.value.Value.{Value}
use Rattle.sal_restrict.specs.declared.ranges.Part.{Part}
use Rattle.sal_restrict.specs.declared.yang_type.Pattern.{Pattern}
use Rattle.sal_restrict.specs.declared.yang_type.YangType.{YangType, out-YangType}
use Rattle.sal_restrict.specs.declared.yang_type.YangType.TheOpen.{YangType-F}
use Rattle.sal_restrict.specs.Ranges.{holds}
use Rattle.sal_schema.specs.declared.table.SchemaTable.{SchemaTable}
use Rattle.sal_json.specs.declared.fault.ScalarFault.{ScalarFault}
use Rattle.sal_json.specs.declared.fault.ScalarFault.TheVariants.{WrongKind, BadLength, NoMatch}
use Rattle.sal_json.specs.Numerals.{whole_atom, int_atom, dec_atom}
use Rattle.sal_json.specs.Named.{text_eq, enum_atom, bits_atom, identity_atom}
use Rattle.sal_json.specs.Patterns.{passes}
use Rattle.sal_json.specs.Written.{atom_text}

-- ---- texts

-- a string: its length in characters, then its patterns
abbrev pub string_atom : List Part → List Pattern → List ℕ → Result Atom ScalarFault
string_atom lengths patterns t =
    if not (holds lengths (pos (length (chars t)))) then Err BadLength else if list_all (passes t) patterns then Ok (Text t) else Err NoMatch

abbrev pub bool_atom : List ℕ → Result Atom ScalarFault
bool_atom t = if text_eq t (codes "true") then Ok (BoolAtom true) else if text_eq t (codes "false") then Ok (BoolAtom false) else Err WrongKind

abbrev pub bytes_atom : List Part → List ℕ → Result Atom ScalarFault
bytes_atom lengths bytes = if holds lengths (pos (length bytes)) then Ok (Bin bytes) else Err BadLength

-- the bytes of a base64 text, if it has this form
abbrev pub bytes_of : List ℕ → Option (List ℕ)
bytes_of t = decoded_of standard t

-- padded base64, then the length in bytes
abbrev pub binary_atom : List Part → List ℕ → Result Atom ScalarFault
binary_atom lengths t = option_map_or (bytes_atom lengths) (bytes_of t) (Err WrongKind)

abbrev pub empty_atom : List ℕ → Result Atom ScalarFault
empty_atom t = if length t == 0 then Ok Empty else Err WrongKind

-- the atom that a text denotes in a type that is no union, where `m` is the module of the leaf
abbrev pub text_atom : SchemaTable → ℕ → YangType-F YangType → List ℕ → Result Atom ScalarFault
text_atom table m (YangType-F.Int bits sign range) t = int_atom bits sign range t
text_atom table m (YangType-F.Dec digits range) t = dec_atom digits range t
text_atom table m (YangType-F.Text lengths patterns) t = string_atom lengths patterns t
text_atom table m YangType-F.Bool t = bool_atom t
text_atom table m (YangType-F.Enum names places) t = enum_atom names places t
text_atom table m (YangType-F.Bits names positions) t = bits_atom names positions t
text_atom table m (YangType-F.Bin lengths) t = binary_atom lengths t
text_atom table m (YangType-F.Ident bases) t = identity_atom table m bases t
text_atom table m YangType-F.Empty t = empty_atom t
text_atom table m layer t = Err WrongKind

-- ---- JSON values

abbrev pub of_string : (List ℕ → Result Atom ScalarFault) → Data → Result Atom ScalarFault
of_string read json = option_map_or read (as_str json) (Err WrongKind)

-- a number that is a whole one
abbrev pub whole_of : Data → Option ℤ
whole_of json = option_and_then as_integer (as_number json)

abbrev pub of_number : (ℤ → Result Atom ScalarFault) → Data → Result Atom ScalarFault
of_number read json = option_map_or read (whole_of json) (Err WrongKind)

abbrev pub of_boolean : Data → Result Atom ScalarFault
of_boolean json = option_map_or (λ b. Ok (BoolAtom b)) (as_bool json) (Err WrongKind)

abbrev pub is_one_null : Items → Bool
is_one_null (item json no_items) = is_some (as_null json)
is_one_null items = false

-- `[null]`
abbrev pub is_nulls : Data → Bool
is_nulls json = option_map_or is_one_null (as_array json) false

abbrev pub of_nulls : Data → Result Atom ScalarFault
of_nulls json = if is_nulls json then Ok Empty else Err WrongKind

-- the atom that a JSON value denotes in a type that is no union
abbrev pub json_atom : SchemaTable → ℕ → YangType-F YangType → Data → Result Atom ScalarFault
json_atom table m (YangType-F.Int bits sign range) json = if bits == 64 then of_string (int_atom bits sign range) json else of_number (whole_atom sign range) json
json_atom table m YangType-F.Bool json = of_boolean json
json_atom table m YangType-F.Empty json = of_nulls json
json_atom table m layer json = of_string (text_atom table m layer) json

-- ---- unions

-- the value, if the input is in the form in which that value is written
abbrev pub if_own : (Atom → Bool) → Result Atom ScalarFault → Option Atom
if_own is_own (Ok atom) = if is_own atom then Some atom else None
if_own is_own (Err fault) = None

-- the text is the one that is written for the atom
abbrev pub is_own_text : SchemaTable → ℕ → YangType-F YangType → List ℕ → Atom → Bool
is_own_text table m layer t atom = text_eq t (atom_text table m layer atom)

-- Whole numbers, `true`, `false` and `[null]` have one form each.
abbrev pub is_own_json : SchemaTable → ℕ → YangType-F YangType → Data → Atom → Bool
is_own_json table m layer json atom = option_map_or (λ t. is_own_text table m layer t atom) (as_str json) true

abbrev pub own_text : SchemaTable → ℕ → List ℕ → YangType → Option Atom
own_text table m t member = if_own (is_own_text table m (out-YangType member) t) (text_atom table m (out-YangType member) t)

abbrev pub own_json : SchemaTable → ℕ → Data → YangType → Option Atom
own_json table m json member = if_own (is_own_json table m (out-YangType member) json) (json_atom table m (out-YangType member) json)

abbrev pub value_of : ℕ → Atom → Value
value_of k atom = record { member = k; atom = atom }

-- the value of the first member that takes it, where the first of these has the place i
abbrev pub first_own : (YangType → Option Atom) → ℕ → List YangType → Result Value ScalarFault
first_own take i [] = Err WrongKind
first_own take i (member ∷ members) = option_map_or (λ atom. Ok (value_of i atom)) (take member) (first_own take (i + 1) members)

-- ---- any type

-- a value of a type that is no union
abbrev pub plain : Result Atom ScalarFault → Result Value ScalarFault
plain (Ok atom) = Ok (value_of 0 atom)
plain (Err fault) = Err fault

abbrev pub layer_text_scalar : SchemaTable → ℕ → YangType-F YangType → List ℕ → Result Value ScalarFault
layer_text_scalar table m (YangType-F.Union members) t = first_own (own_text table m t) 0 members
layer_text_scalar table m layer t = plain (text_atom table m layer t)

abbrev pub layer_scalar : SchemaTable → ℕ → YangType-F YangType → Data → Result Value ScalarFault
layer_scalar table m (YangType-F.Union members) json = first_own (own_json table m json) 0 members
layer_scalar table m layer json = plain (json_atom table m layer json)

abbrev pub type_text_scalar : SchemaTable → YangType → ℕ → List ℕ → Result Value ScalarFault
type_text_scalar table ty m t = layer_text_scalar table m (out-YangType ty) t

abbrev pub type_scalar : SchemaTable → YangType → ℕ → Data → Result Value ScalarFault
type_scalar table ty m json = layer_scalar table m (out-YangType ty) json

-- the value of the type `ty` that a key text denotes, where `m` is the module of the leaf
abbrev pub text_scalar_of : SchemaTable → ℕ → ℕ → List ℕ → Result Value ScalarFault
text_scalar_of table ty m t = option_map_or (λ type. type_text_scalar table type m t) (slice_get table.types ty) (Err WrongKind)

-- the value that a JSON value denotes
abbrev pub scalar_of : SchemaTable → ℕ → ℕ → Data → Result Value ScalarFault
scalar_of table ty m json = option_map_or (λ type. type_scalar table type m json) (slice_get table.types ty) (Err WrongKind)
