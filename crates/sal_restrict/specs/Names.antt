-- The names of the built-in types (RFC 7950 section 4.2.4).
use Rattle.std.specs.Prelude.{ℕ, Bool, true, false, List, ◌==◌, if◌then◌else◌, codes}
use Rattle.sal_restrict.specs.declared.yang_type.YangType.{YangType, out-YangType}
use Rattle.sal_restrict.specs.declared.yang_type.YangType.TheOpen.{YangType-F}

-- of whole numbers of this many bits
abbrev pub int_name : ℕ → Bool → List ℕ
int_name bits true = if bits == 8 then codes "int8" else if bits == 16 then codes "int16" else if bits == 32 then codes "int32" else codes "int64"
int_name bits false = if bits == 8 then codes "uint8" else if bits == 16 then codes "uint16" else if bits == 32 then codes "uint32" else codes "uint64"

abbrev pub name_of_layer : YangType-F YangType → List ℕ
name_of_layer (YangType-F.Int bits signed range) = int_name bits signed
name_of_layer (YangType-F.Dec digits range) = codes "decimal64"
name_of_layer (YangType-F.Text length patterns) = codes "string"
name_of_layer YangType-F.Bool = codes "boolean"
name_of_layer (YangType-F.Enum names places) = codes "enumeration"
name_of_layer (YangType-F.Bits names positions) = codes "bits"
name_of_layer (YangType-F.Bin length) = codes "binary"
name_of_layer (YangType-F.Ident bases) = codes "identityref"
name_of_layer YangType-F.Empty = codes "empty"
name_of_layer (YangType-F.Union members) = codes "union"
name_of_layer (YangType-F.Leafref path) = codes "leafref"

abbrev pub builtin_name : YangType → List ℕ
builtin_name t = name_of_layer (out-YangType t)
