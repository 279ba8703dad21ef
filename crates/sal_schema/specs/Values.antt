-- Which values are of a type (RFC 7950 section 9).
use Rattle.std.specs.Prelude.{ℕ, zero, suc, ◌/◌, ◌%◌, ◌^◌, pos, Bool as Truth, true, false, not, ◌&&◌, ◌||◌, ◌==◌, nat_lt, List, length, option_and_then}
use Rattle.std.specs.List.{list_all, slice_get}
use Rattle.std.specs.Option.{option_map_or}
use Rattle.std.specs.Str.{chars}
use Rattle.sal_types.specs.declared.value.Atom.{Atom}
use Rattle.sal_types.specs.declared.value.Atom.TheVariants.{Signed, Unsigned, Dec, Text, Bool, Enum, Bits, Bin, Ident, Empty}
use Rattle.sal_types.specs.declared.value.Value.{Value}
use Rattle.sal_restrict.specs.declared.yang_type.YangType.{YangType, out-YangType}
use Rattle.sal_restrict.specs.declared.yang_type.YangType.TheOpen.{YangType-F}
use Rattle.sal_restrict.specs.Ranges.{holds}
use Rattle.sal_schema.specs.declared.table.SchemaTable.{SchemaTable}
use Rattle.sal_schema.specs.Table.{is_among, is_derived, type_of}

-- the test holds of each number below n
unfoldable pub all_below : (ℕ → Truth) → ℕ → Truth
all_below test zero = true
all_below test (suc n) = test n && all_below test n

abbrev pub has_bit : ℕ → ℕ → Truth
has_bit set p = (set / 2 ^ p) % 2 == 1

-- the bit is not set, or is one of these positions
abbrev pub is_taken : List ℕ → ℕ → ℕ → Truth
is_taken positions set p = not (has_bit set p) || is_among p positions

-- each bit that is set is one of these positions
abbrev pub are_bits : List ℕ → ℕ → Truth
are_bits positions set = all_below (is_taken positions set) 64

-- an identity that is derived from all bases
abbrev pub takes_identity : SchemaTable → List ℕ → ℕ → Truth
takes_identity table bases i = nat_lt i (length table.identities) && list_all (is_derived table i) bases

-- The atom has the type's kind, is in its range and has its length, or names an enum, bits or an identity that the type
-- takes. The type is no union.
abbrev pub is_of_layer : SchemaTable → YangType-F YangType → Atom → Truth
is_of_layer table (YangType-F.Int bits signed range) (Signed n) = signed && holds range n
is_of_layer table (YangType-F.Int bits signed range) (Unsigned n) = not signed && holds range (pos n)
is_of_layer table (YangType-F.Dec digits range) (Dec units n) = n == digits && holds range units
is_of_layer table (YangType-F.Text lengths patterns) (Text text) = holds lengths (pos (length (chars text)))
is_of_layer table YangType-F.Bool (Bool b) = true
is_of_layer table (YangType-F.Enum names places) (Enum place) = is_among place places
is_of_layer table (YangType-F.Bits names positions) (Bits set) = are_bits positions set
is_of_layer table (YangType-F.Bin lengths) (Bin bytes) = holds lengths (pos (length bytes))
is_of_layer table (YangType-F.Ident bases) (Ident i) = takes_identity table bases i
is_of_layer table YangType-F.Empty Empty = true
is_of_layer table layer atom = false

abbrev pub is_of_plain : SchemaTable → YangType → Atom → Truth
is_of_plain table ty atom = is_of_layer table (out-YangType ty) atom

abbrev pub is_of_member : SchemaTable → List YangType → Value → Truth
is_of_member table members value = option_map_or (λ member. is_of_plain table member value.atom) (slice_get members value.member) false

-- a value of a union is of the type of its member; a value of another type has the member 0
abbrev pub is_of_type_layer : SchemaTable → YangType-F YangType → Value → Truth
is_of_type_layer table (YangType-F.Union members) value = is_of_member table members value
is_of_type_layer table layer value = value.member == 0 && is_of_layer table layer value.atom

abbrev pub is_of_type : SchemaTable → YangType → Value → Truth
is_of_type table ty value = is_of_type_layer table (out-YangType ty) value

-- a value of the type of this leaf or leaf-list
abbrev pub is_of_node : SchemaTable → ℕ → Value → Truth
is_of_node table n value = option_map_or (λ ty. is_of_type table ty value) (option_and_then (slice_get table.types) (type_of table n)) false
