-- Types with those of the targets of leafrefs: a leafref has its target's type (RFC 7950 section 9.9).
use Rattle.std.specs.Prelude.{ℕ, zero, suc, Bool, true, false, List, [], ◌∷◌, ◌++◌, map, length, drop, slice_index_or, if◌then◌else◌}
use Rattle.sal_restrict.specs.declared.yang_type.YangType.{YangType, out-YangType, roll-YangType}
use Rattle.sal_restrict.specs.declared.yang_type.YangType.TheOpen.{YangType-F}
use Rattle.sal_typedefs.specs.Types.{members_of}
pub use Rattle.sal_schema.specs.Examples.{empty}

abbrev pub type_at : List YangType → ℕ → YangType
type_at types k = slice_index_or types k empty

abbrev pub is_reference : YangType-F YangType → Bool
is_reference (YangType-F.Leafref path) = true
is_reference layer = false

-- The members of a union with the next target's type for each leafref: if that is a union, its members.
abbrev pub filled_member : YangType → List YangType → List YangType
filled_member member types = if is_reference (out-YangType member) then members_of (type_at types 0) (out-YangType (type_at types 0)) else member ∷ []

abbrev pub left_after : YangType → List YangType → List YangType
left_after member types = if is_reference (out-YangType member) then drop 1 types else types

abbrev pub filled_members : List YangType → List YangType → List YangType
filled_members [] types = []
filled_members (member ∷ members) types = filled_member member types ++ filled_members members (left_after member types)

abbrev pub filled_layer : YangType → List YangType → YangType-F YangType → YangType
filled_layer t types (YangType-F.Leafref path) = type_at types 0
filled_layer t types (YangType-F.Union members) = roll-YangType (YangType-F.Union (filled_members members types))
filled_layer t types layer = t

-- the type, with the types of the targets of its leafrefs in their order
abbrev pub filled : YangType → List YangType → YangType
filled t types = filled_layer t types (out-YangType t)

-- ---- chains of leafrefs

-- The type of a node from those of its targets. Each node has its stated type and the targets of its leafrefs.
abbrev pub filled_at : List YangType → List (List ℕ) → (ℕ → YangType) → ℕ → YangType
filled_at own edges above k = filled (type_at own k) (map above (slice_index_or edges k []))

-- in at most n steps: without a cycle no path of leafrefs visits a node twice
unfoldable pub node_type : List YangType → List (List ℕ) → ℕ → ℕ → YangType
node_type own edges zero k = empty
node_type own edges (suc n) k = filled_at own edges (node_type own edges n) k

abbrev pub type_of_node : List YangType → List (List ℕ) → ℕ → YangType
type_of_node own edges k = node_type own edges (length edges) k
