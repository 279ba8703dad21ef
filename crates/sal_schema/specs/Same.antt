-- Whether two nodes, types or identities are the same, as code decides it.
use Rattle.std.specs.Prelude.{ℕ, Bool as Truth, true, false, ◌&&◌, ◌==◌, nat_eq, List, [], ◌∷◌, Option}
use mathlib.Core.Bool.{beq}
use Rattle.std.specs.Cmp.Lexicographic.{pointwise}
use Rattle.std.specs.Option.{option_eq}
use Rattle.std.specs.Ordering.{int_eq}
use Rattle.sal_restrict.specs.declared.ranges.Part.{Part}
use Rattle.sal_restrict.specs.declared.yang_type.Pattern.{Pattern}
use Rattle.sal_restrict.specs.declared.yang_type.YangType.{YangType, out-YangType}
use Rattle.sal_restrict.specs.declared.yang_type.YangType.TheOpen.{YangType-F}
use Rattle.sal_schema.specs.declared.table.NodeInfo.{NodeInfo}
use Rattle.sal_schema.specs.declared.table.IdentityInfo.{IdentityInfo}
use Rattle.sal_schema.specs.declared.table.SchemaTable.{SchemaTable}
use Rattle.sal_schema.specs.Kinds.{kind_eq}

-- ---- lists

-- each element of the front is the same as the element at its place
abbrev pub begins : {X : Type 0} → (X → X → Truth) → List X → List X → Truth
begins same [] xs = true
begins same (y ∷ front) [] = false
begins same (y ∷ front) (x ∷ xs) = same y x && begins same front xs

abbrev pub same_numbers : List ℕ → List ℕ → Truth
same_numbers = pointwise nat_eq

abbrev pub same_texts : List (List ℕ) → List (List ℕ) → Truth
same_texts = pointwise (pointwise nat_eq)

-- ---- nodes

abbrev pub same_number : Option ℕ → Option ℕ → Truth
same_number = option_eq nat_eq

abbrev pub same_place : NodeInfo → NodeInfo → Truth
same_place a b = (same_number a.parent b.parent && kind_eq a.kind b.kind) && (a.module == b.module && same_numbers a.name b.name)

abbrev pub same_use : NodeInfo → NodeInfo → Truth
same_use a b = (option_eq beq a.config b.config && same_number a.ty b.ty) && (same_numbers a.keys b.keys && beq a.mandatory b.mandatory)

abbrev pub same_limits : NodeInfo → NodeInfo → Truth
same_limits a b = (a.min_elements == b.min_elements && same_number a.max_elements b.max_elements) && same_texts a.unique b.unique

abbrev pub same_node : NodeInfo → NodeInfo → Truth
same_node a b = (same_place a b && same_use a b) && same_limits a b

-- ---- identities

abbrev pub same_identity : IdentityInfo → IdentityInfo → Truth
same_identity a b = (same_numbers a.name b.name && a.module == b.module) && same_numbers a.derived_from b.derived_from

-- ---- types

abbrev pub same_part : Part → Part → Truth
same_part a b = int_eq a.low b.low && int_eq a.high b.high

abbrev pub same_range : List Part → List Part → Truth
same_range = pointwise same_part

abbrev pub same_pattern : Pattern → Pattern → Truth
same_pattern a b = same_numbers a.text b.text && beq a.inverted b.inverted

-- of types that are not unions
abbrev pub same_layer : YangType-F YangType → YangType-F YangType → Truth
same_layer (YangType-F.Int bits signed range) (YangType-F.Int bits2 signed2 range2) = (bits == bits2 && beq signed signed2) && same_range range range2
same_layer (YangType-F.Dec digits range) (YangType-F.Dec digits2 range2) = digits == digits2 && same_range range range2
same_layer (YangType-F.Text length patterns) (YangType-F.Text length2 patterns2) = same_range length length2 && pointwise same_pattern patterns patterns2
same_layer YangType-F.Bool YangType-F.Bool = true
same_layer (YangType-F.Enum names places) (YangType-F.Enum names2 places2) = same_texts names names2 && same_numbers places places2
same_layer (YangType-F.Bits names places) (YangType-F.Bits names2 places2) = same_texts names names2 && same_numbers places places2
same_layer (YangType-F.Bin length) (YangType-F.Bin length2) = same_range length length2
same_layer (YangType-F.Ident bases) (YangType-F.Ident bases2) = same_numbers bases bases2
same_layer YangType-F.Empty YangType-F.Empty = true
same_layer a b = false

abbrev pub same_plain : YangType → YangType → Truth
same_plain a b = same_layer (out-YangType a) (out-YangType b)

abbrev pub same_members : List YangType → List YangType → Truth
same_members [] [] = true
same_members (a ∷ members) (b ∷ members2) = same_plain a b && same_members members members2
same_members members members2 = false

-- The members of a union in a table are never unions.
abbrev pub same_type_layer : YangType-F YangType → YangType-F YangType → Truth
same_type_layer (YangType-F.Union members) (YangType-F.Union members2) = same_members members members2
same_type_layer a b = same_layer a b

abbrev pub same_type : YangType → YangType → Truth
same_type a b = same_type_layer (out-YangType a) (out-YangType b)

-- ---- tables

abbrev pub extends : SchemaTable → SchemaTable → Truth
extends newer older =
    (begins same_node older.nodes newer.nodes && begins same_type older.types newer.types)
    && (begins same_numbers older.modules newer.modules && begins same_identity older.identities newer.identities)
