-- A schema and names for the examples.
use Rattle.std.specs.Prelude.{ℕ, ℤ, pos, negsuc, int_le, Bool, true, false, List, [], ◌∷◌, ◌++◌, Result, Ok, codes}
use Prim.Native.String.{String}
use Rattle.serde_json.specs.Data.{Data, string}
use Rattle.sal_types.specs.declared.value.Atom.{Atom}
use Rattle.sal_types.specs.declared.value.Value.{Value}
use Rattle.sal_restrict.specs.declared.ranges.Part.{Part}
use Rattle.sal_restrict.specs.declared.yang_type.Pattern.{Pattern}
use Rattle.sal_restrict.specs.declared.yang_type.YangType.{YangType, roll-YangType}
use Rattle.sal_restrict.specs.declared.yang_type.YangType.TheOpen.{YangType-F}
use Rattle.sal_schema.specs.declared.table.IdentityInfo.{IdentityInfo}
use Rattle.sal_schema.specs.declared.table.SchemaTable.{SchemaTable}
use Rattle.sal_json.specs.declared.fault.ScalarFault.{ScalarFault}
use Rattle.sal_json.specs.Read.{scalar_of, text_scalar_of}
use Rattle.sal_json.specs.Written.{json_of, text_of}
pub use Rattle.sal_schema.specs.Examples.{empty}

-- ---- types

abbrev pub is_part : ℤ → ℤ → Bool
is_part low high = int_le low high

abbrev pub part : ℤ → ℤ → List Part
part low high = record { low = low; high = high } ∷ []

abbrev pub whole : ℕ → Bool → ℤ → ℤ → YangType
whole bits sign low high = roll-YangType (YangType-F.Int bits sign (part low high))

abbrev pub dec : ℕ → YangType
dec digits = roll-YangType (YangType-F.Dec digits (part (negsuc 9223372036854775807) (pos 9223372036854775807)))

abbrev pub text : ℤ → ℤ → List Pattern → YangType
text low high patterns = roll-YangType (YangType-F.Text (part low high) patterns)

abbrev pub uint8 : YangType
uint8 = whole 8 false (pos 0) (pos 255)

abbrev pub int64 : YangType
int64 = whole 64 true (negsuc 9223372036854775807) (pos 9223372036854775807)

abbrev pub uint64 : YangType
uint64 = whole 64 false (pos 0) (pos 18446744073709551615)

abbrev pub cents : YangType
cents = dec 2

abbrev pub any_text : YangType
any_text = text (pos 0) (pos 18446744073709551615) []

-- small letters that are not `xy`
abbrev pub letters : List Pattern
letters = record { text = codes "[a-z]*"; inverted = false } ∷ record { text = codes "xy"; inverted = true } ∷ []

abbrev pub two_letters : YangType
two_letters = text (pos 2) (pos 2) letters

abbrev pub binary : YangType
binary = roll-YangType (YangType-F.Bin (part (pos 0) (pos 3)))

abbrev pub boolean : YangType
boolean = roll-YangType YangType-F.Bool

abbrev pub colour : YangType
colour = roll-YangType (YangType-F.Enum (codes "red" ∷ codes "blue" ∷ []) (0 ∷ 7 ∷ []))

abbrev pub flags : YangType
flags = roll-YangType (YangType-F.Bits (codes "up" ∷ codes "loop" ∷ codes "down" ∷ []) (0 ∷ 2 ∷ 1 ∷ []))

abbrev pub animal : YangType
animal = roll-YangType (YangType-F.Ident (0 ∷ []))

abbrev pub union : YangType → YangType → YangType
union a b = roll-YangType (YangType-F.Union (a ∷ b ∷ []))

abbrev pub number_or_text : YangType
number_or_text = union uint8 any_text

abbrev pub long_or_text : YangType
long_or_text = union int64 any_text

abbrev pub numbers : List YangType
numbers =
    whole 8 true (negsuc 127) (pos 127)
    ∷ uint8
    ∷ whole 32 true (negsuc 2147483647) (pos 2147483647)
    ∷ whole 32 false (pos 0) (pos 4294967295)
    ∷ int64
    ∷ uint64
    ∷ []

abbrev pub names : List YangType
names = boolean ∷ colour ∷ flags ∷ animal ∷ empty ∷ binary ∷ []

abbrev pub texts : List YangType
texts = dec 2 ∷ dec 18 ∷ any_text ∷ two_letters ∷ text (pos 2) (pos 2) [] ∷ []

abbrev pub unions : List YangType
unions = number_or_text ∷ union any_text uint8 ∷ long_or_text ∷ []

abbrev pub all_types : List YangType
all_types = numbers ++ names ++ texts ++ unions

-- ---- a schema of these types, and identities of three modules, of which all but `stone` are derived from the first

abbrev pub identity_of : ℕ → List ℕ → List ℕ → IdentityInfo
identity_of m name bases = record { name = name; «module» = m; derived_from = bases }

abbrev pub identity : ℕ → String → List ℕ → IdentityInfo
identity m name bases = identity_of m (codes name) bases

abbrev pub identities : List IdentityInfo
identities = identity 0 "animal" [] ∷ identity 0 "cat" (0 ∷ []) ∷ identity 1 "cow" (0 ∷ []) ∷ identity 2 "cat" (0 ∷ 1 ∷ []) ∷ identity 1 "stone" [] ∷ []

abbrev pub table : List YangType → SchemaTable
table types = record {
  nodes = [];
  types = types;
  modules = codes "zoo" ∷ codes "farm" ∷ codes "sea" ∷ [];
  identities = identities;
}

-- ---- readings and writings in the module `zoo`

abbrev pub reads : YangType → Data → Result Value ScalarFault
reads ty json = scalar_of (table (ty ∷ [])) 0 0 json

abbrev pub reads_text : YangType → String → Result Value ScalarFault
reads_text ty t = reads ty (string (codes t))

abbrev pub reads_key : YangType → String → Result Value ScalarFault
reads_key ty t = text_scalar_of (table (ty ∷ [])) 0 0 (codes t)

abbrev pub writes : YangType → Value → Data
writes ty value = json_of (table (ty ∷ [])) 0 0 value

abbrev pub writes_key : YangType → Value → List ℕ
writes_key ty value = text_of (table (ty ∷ [])) 0 0 value

abbrev pub value : ℕ → Atom → Value
value k atom = record { member = k; atom = atom }

abbrev pub gives : Atom → Result Value ScalarFault
gives atom = Ok (value 0 atom)
