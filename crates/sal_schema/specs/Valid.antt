-- Which tables are the table of a schema.
use Rattle.std.specs.Prelude.{ℕ, ◌-◌, ◌^◌, ◌<◌, ℤ, pos, negsuc, int_le, Bool as Truth, true, false, not, ◌&&◌, ◌||◌, ◌==◌, nat_lt, nat_le, IsTrue, List, [], ◌∷◌, length, Option, Some, option_and_then, is_some}
use Rattle.std.specs.List.{list_all, list_any}
use Rattle.std.specs.Option.{option_map_or, is_none}
use Rattle.std.specs.Char.{is_ascii_alphabetic, is_ascii_alphanumeric}
use Rattle.std.specs.Cmp.Lexicographic.{pointwise}
use Rattle.std.specs.Prelude.{nat_eq}
use Rattle.sal_restrict.specs.declared.ranges.Part.{Part}
use Rattle.sal_restrict.specs.declared.yang_type.YangType.{YangType, out-YangType}
use Rattle.sal_restrict.specs.declared.yang_type.YangType.TheOpen.{YangType-F}
use Rattle.sal_schema.specs.declared.kind.Kind.{Kind}
use Rattle.sal_schema.specs.declared.kind.Kind.TheVariants.{Rpc, Notification}
use Rattle.sal_schema.specs.declared.table.NodeInfo.{NodeInfo}
use Rattle.sal_schema.specs.declared.table.IdentityInfo.{IdentityInfo}
use Rattle.sal_schema.specs.declared.table.SchemaTable.{SchemaTable}
use Rattle.sal_schema.specs.Kinds.{is_list, is_leaf, has_type, is_choice, is_case, is_rpc, is_notification, is_parameters}
use Rattle.sal_schema.specs.Names.{are_distinct, module_names, identity_names, data_names, kind_names}
use Rattle.sal_schema.specs.Table.{all_from, is_among, is_same, kind_of, is_kind, parent_of, list_above}

-- ---- words

-- it starts with a letter or `_`, then come letters, digits, `_`, `-` and `.` (RFC 7950 section 6.2)
abbrev pub starts_identifier : ℕ → Truth
starts_identifier c = is_ascii_alphabetic c || c == 95

abbrev pub goes_on : ℕ → Truth
goes_on c = ((is_ascii_alphanumeric c || c == 95) || c == 45) || c == 46

abbrev pub is_identifier : List ℕ → Truth
is_identifier [] = false
is_identifier (c ∷ text) = starts_identifier c && list_all goes_on text

-- both hold or neither does
abbrev pub agree : Truth → Truth → Truth
agree true b = b
agree false b = not b

-- no element is equal to a later one
abbrev pub all_differ : {X : Type 0} → (X → X → Truth) → List X → Truth
all_differ same [] = true
all_differ same (x ∷ xs) = not (list_any (same x) xs) && all_differ same xs

abbrev pub is_empty : {X : Type 0} → List X → Truth
is_empty xs = length xs == 0

-- ---- a node

abbrev pub parent_kind : SchemaTable → NodeInfo → Option Kind
parent_kind table node = option_and_then (kind_of table) node.parent

abbrev pub is_under : (Kind → Truth) → SchemaTable → NodeInfo → Truth
is_under test table node = option_map_or test (parent_kind table node) false

-- the parent has a smaller number, and the module and the type exist
abbrev pub has_numbers : SchemaTable → ℕ → NodeInfo → Truth
has_numbers table n node =
    (option_map_or (λ p. nat_lt p n) node.parent true && nat_lt node.module (length table.modules))
    && option_map_or (λ t. nat_lt t (length table.types)) node.ty true

-- Leafs and leaf-lists have no children. Only children of choices are cases, and only children of RPCs are inputs and
-- outputs. RPCs and notifications are at the top.
abbrev pub stands_right : SchemaTable → NodeInfo → Truth
stands_right table node =
    ((not (is_under has_type table node) && agree (is_case node.kind) (is_under is_choice table node)) && agree (is_parameters node.kind) (is_under is_rpc table node))
    && (not (is_rpc node.kind || is_notification node.kind) || is_none node.parent)

-- exactly leafs and leaf-lists have a type
abbrev pub has_its_type : NodeInfo → Truth
has_its_type node = agree (has_type node.kind) (is_some node.ty)

-- exactly lists have keys: at least one, each another leaf that is its child
abbrev pub has_its_keys : SchemaTable → ℕ → NodeInfo → Truth
has_its_keys table n node =
    (agree (is_list node.kind) (not (is_empty node.keys)) && all_differ nat_eq node.keys)
    && list_all (λ leaf. is_kind is_leaf table leaf && is_same (parent_of table leaf) (Some n)) node.keys

-- the leafs of a `unique` are leafs below it with no list between
abbrev pub has_its_uniques : SchemaTable → ℕ → NodeInfo → Truth
has_its_uniques table n node = list_all (list_all (λ leaf. is_kind is_leaf table leaf && is_same (list_above table leaf) (Some n))) node.unique

-- ---- an identity

abbrev pub is_good_identity : SchemaTable → ℕ → IdentityInfo → Truth
is_good_identity table i identity =
    ((is_identifier identity.name && nat_lt identity.module (length table.modules)) && list_all (λ base. nat_lt base (length table.identities)) identity.derived_from)
    && not (is_among i identity.derived_from)

-- ---- a type

abbrev pub lie_within : ℤ → ℤ → List Part → Truth
lie_within low high range = list_all (λ (part : Part). int_le low part.low && int_le part.high high) range

-- whole numbers of this many bits
abbrev pub lie_in_bits : ℕ → Truth → List Part → Truth
lie_in_bits bits true range = lie_within (negsuc (2 ^ (bits - 1) - 1)) (pos (2 ^ (bits - 1) - 1)) range
lie_in_bits bits false range = lie_within (pos 0) (pos (2 ^ bits - 1)) range

abbrev pub is_width : ℕ → Truth
is_width bits = ((bits == 8 || bits == 16) || bits == 32) || bits == 64

abbrev pub text_eq : List ℕ → List ℕ → Truth
text_eq = pointwise nat_eq

-- distinct names and as many distinct places
abbrev pub are_named : List (List ℕ) → List ℕ → Truth
are_named names places = (length names == length places && all_differ text_eq names) && all_differ nat_eq places

-- of a type that is no union
abbrev pub is_good_layer : SchemaTable → YangType-F YangType → Truth
is_good_layer table (YangType-F.Int bits signed range) = is_width bits && lie_in_bits bits signed range
is_good_layer table (YangType-F.Dec digits range) = (nat_le 1 digits && nat_le digits 18) && lie_in_bits 64 true range
is_good_layer table (YangType-F.Text length patterns) = true
is_good_layer table YangType-F.Bool = true
is_good_layer table (YangType-F.Enum names places) = are_named names places
is_good_layer table (YangType-F.Bits names positions) = (are_named names positions && list_all is_identifier names) && list_all (λ p. nat_lt p 64) positions
is_good_layer table (YangType-F.Bin length) = true
is_good_layer table (YangType-F.Ident bases) = list_all (λ base. nat_lt base (length table.identities)) bases
is_good_layer table YangType-F.Empty = true
is_good_layer table (YangType-F.Union members) = false
is_good_layer table (YangType-F.Leafref path) = false

-- a union has members, of which none is a union
abbrev pub is_good_type_layer : SchemaTable → YangType-F YangType → Truth
is_good_type_layer table (YangType-F.Union members) = not (is_empty members) && list_all (λ member. is_good_layer table (out-YangType member)) members
is_good_type_layer table layer = is_good_layer table layer

abbrev pub is_good_type : SchemaTable → YangType → Truth
is_good_type table ty = is_good_type_layer table (out-YangType ty)

-- ---- the table

-- fewer than 2 ^ 32 of each kind of things
pub record IsSmall (table : SchemaTable) : Type 0 where
  pub nodes : length table.nodes < 2 ^ 32
  pub types : length table.types < 2 ^ 32
  pub modules : length table.modules < 2 ^ 32
  pub identities : length table.identities < 2 ^ 32

-- each name has one meaning: of a module, and of an RPC, a notification and an identity of a module; and below each
-- data parent one data node (the search goes through choices and cases)
pub record HasDistinctNames (table : SchemaTable) : Type 0 where
  pub modules : IsTrue (are_distinct (module_names table))
  pub identities : IsTrue (are_distinct (identity_names table))
  pub rpcs : IsTrue (are_distinct (kind_names Rpc table))
  pub notifications : IsTrue (are_distinct (kind_names Notification table))
  pub data_nodes : IsTrue (are_distinct (data_names table))

-- the table of a schema
pub record IsTable (table : SchemaTable) : Type 0 where
  pub small : IsSmall table
  pub numbers : IsTrue (all_from (has_numbers table) 0 table.nodes)
  pub places : IsTrue (list_all (stands_right table) table.nodes)
  pub names : IsTrue (list_all (λ (node : NodeInfo). is_identifier node.name) table.nodes)
  pub leaf_types : IsTrue (list_all has_its_type table.nodes)
  pub keys : IsTrue (all_from (has_its_keys table) 0 table.nodes)
  pub uniques : IsTrue (all_from (has_its_uniques table) 0 table.nodes)
  pub module_names : IsTrue (list_all is_identifier table.modules)
  pub identities : IsTrue (all_from (is_good_identity table) 0 table.identities)
  pub types : IsTrue (list_all (is_good_type table) table.types)
  pub distinct : HasDistinctNames table
