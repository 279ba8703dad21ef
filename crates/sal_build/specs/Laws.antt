-- The table of modules is the table of a schema, part by part.
use Rattle.std.specs.Prelude.{◌≡◌, ℕ, ◌<◌, ◌≤◌, ◌^◌, ◌&&◌, ◌||◌, not, is_none, nat_eq, nat_lt, nat_le, Bool as Truth, true, false, List, length, Some, Ok, IsTrue}
use Rattle.std.specs.List.{list_all}
use Rattle.sal_stmt.specs.declared.stmt.Stmt.{Stmt}
use Rattle.sal_restrict.specs.declared.yang_type.YangType.{YangType, out-YangType}
use Rattle.sal_restrict.specs.declared.yang_type.YangType.TheOpen.{YangType-F}
use Rattle.sal_schema.specs.declared.table.SchemaTable.{SchemaTable}
use Rattle.sal_schema.specs.Names.{are_distinct, module_names, identity_names, data_names, kind_names}
use Rattle.sal_schema.specs.declared.table.NodeInfo.{NodeInfo}
use Rattle.sal_schema.specs.declared.kind.Kind.TheVariants.{Rpc, Notification}
use Rattle.sal_schema.specs.Kinds.{is_leaf, is_list, is_rpc, is_notification}
use Rattle.sal_schema.specs.Table.{all_from, is_kind, is_same, parent_of}
use Rattle.sal_schema.specs.Valid.{IsTable, is_identifier, agree, all_differ, is_empty, is_width, lie_in_bits, are_named, has_its_type, has_numbers, has_its_uniques, stands_right, is_good_identity}
use Rattle.sal_typedefs.specs.Names.{steps_of}
use Rattle.sal_module_table.specs.Build.{build}
use Rattle.sal_build.specs.Readable.{has_own_places, is_readable, are_readable}

-- The name of each module is an identifier.
abbrev pub ModulesAreNamed : Type 0
ModulesAreNamed = (stmts : List Stmt) (table : SchemaTable) → build stmts ≡ Ok table → IsTrue (list_all is_identifier table.modules)

-- Leafs and leaf-lists have a type, and no other node has one.
abbrev pub LeafsAreTyped : Type 0
LeafsAreTyped = (stmts : List Stmt) (table : SchemaTable) → build stmts ≡ Ok table → IsTrue (list_all has_its_type table.nodes)

-- There are fewer than 2 ^ 32 nodes, types and modules.
abbrev pub TablesAreSmall : Type 0
TablesAreSmall = (stmts : List Stmt) (table : SchemaTable) → build stmts ≡ Ok table → (length table.nodes < 2 ^ 32) × (length table.types < 2 ^ 32) × (length table.modules < 2 ^ 32)

-- The parent of a node has a smaller number, and its module and its type exist.
abbrev pub NumbersAreThere : Type 0
NumbersAreThere = (stmts : List Stmt) (table : SchemaTable) → build stmts ≡ Ok table → IsTrue (all_from (has_numbers table) 0 table.nodes)

-- Names of modules differ.
abbrev pub ModuleNamesDiffer : Type 0
ModuleNamesDiffer = (stmts : List Stmt) (table : SchemaTable) → build stmts ≡ Ok table → IsTrue (are_distinct (module_names table))

-- The name of each identity is an identifier, its module exists, and it is derived from other identities.
abbrev pub IdentitiesAreGood : Type 0
IdentitiesAreGood = (stmts : List Stmt) (table : SchemaTable) → build stmts ≡ Ok table → IsTrue (all_from (is_good_identity table) 0 table.identities)

-- The leafs of a `unique` are leafs below their list, with no list between.
abbrev pub UniquesAreBelow : Type 0
UniquesAreBelow = (stmts : List Stmt) (table : SchemaTable) → build stmts ≡ Ok table → IsTrue (all_from (has_its_uniques table) 0 table.nodes)

-- The keys of a node are leafs that are its children.
abbrev pub KeysAreInside : Type 0
KeysAreInside =
    (stmts : List Stmt) (table : SchemaTable) → build stmts ≡ Ok table
    → IsTrue (all_from (λ n (node : NodeInfo). list_all (λ leaf. is_kind is_leaf table leaf && is_same (parent_of table leaf) (Some n)) node.keys) 0 table.nodes)

-- Names of identities of one module differ.
abbrev pub IdentityNamesDiffer : Type 0
IdentityNamesDiffer = (stmts : List Stmt) (table : SchemaTable) → build stmts ≡ Ok table → IsTrue (are_distinct (identity_names table))

-- If the offsets in each module differ, the name of each node is an identifier.
abbrev pub NodesAreNamed : Type 0
NodesAreNamed =
    (stmts : List Stmt) (table : SchemaTable) → IsTrue (list_all has_own_places stmts) → build stmts ≡ Ok table
    → IsTrue (list_all (λ (node : NodeInfo). is_identifier node.name) table.nodes)

-- If the offsets in each module differ, exactly the lists have keys: at least one, and no key occurs twice.
abbrev pub KeysAreThere : Type 0
KeysAreThere =
    (stmts : List Stmt) (table : SchemaTable) → IsTrue (list_all has_own_places stmts) → build stmts ≡ Ok table
    → IsTrue (list_all (λ (node : NodeInfo). agree (is_list node.kind) (not (is_empty node.keys)) && all_differ nat_eq node.keys) table.nodes)

-- for a type that is no union: an integer has 8, 16, 32 or 64 bits
abbrev pub is_sized : YangType-F YangType → Truth
is_sized (YangType-F.Int bits signed range) = is_width bits
is_sized (YangType-F.Union members) = false
is_sized layer = true

abbrev pub is_flat : YangType-F YangType → Truth
is_flat (YangType-F.Union members) = list_all (λ member. is_sized (out-YangType member)) members
is_flat layer = is_sized layer

-- Integers have 8, 16, 32 or 64 bits, and no member of a union is a union.
abbrev pub TypesAreFlat : Type 0
TypesAreFlat = (stmts : List Stmt) (table : SchemaTable) → build stmts ≡ Ok table → IsTrue (list_all (λ ty. is_flat (out-YangType ty)) table.types)

-- For a type that is no union, with `count` identities: its bits or digits are allowed, its range fits them, its bases exist, and it is no leafref.
abbrev pub is_bounded : ℕ → YangType-F YangType → Truth
is_bounded count (YangType-F.Int bits signed range) = is_width bits && lie_in_bits bits signed range
is_bounded count (YangType-F.Dec digits range) = (nat_le 1 digits && nat_le digits 18) && lie_in_bits 64 true range
is_bounded count (YangType-F.Ident bases) = list_all (λ base. nat_lt base count) bases
is_bounded count (YangType-F.Union members) = false
is_bounded count (YangType-F.Leafref path) = false
is_bounded count layer = true

-- a test of types that are no unions, applied to each member of a union
abbrev pub of_each : (YangType-F YangType → Truth) → YangType-F YangType → Truth
of_each test (YangType-F.Union members) = list_all (λ member. test (out-YangType member)) members
of_each test layer = test layer

-- Decimals have 1 to 18 digits, and ranges fit their bits; bases are identities; no leafref is left.
abbrev pub TypesAreBounded : Type 0
TypesAreBounded =
    (stmts : List Stmt) (table : SchemaTable) → build stmts ≡ Ok table
    → IsTrue (list_all (λ ty. of_each (is_bounded (length table.identities)) (out-YangType ty)) table.types)

-- For a type that is no union: the names of an enumeration or of bits differ, and so do as many places; those of bits are below 64.
abbrev pub is_placed : YangType-F YangType → Truth
is_placed (YangType-F.Enum names places) = are_named names places
is_placed (YangType-F.Bits names positions) = are_named names positions && list_all (λ p. nat_lt p 64) positions
is_placed layer = true

-- Enumerations and bits have distinct names, and as many distinct places.
abbrev pub NamesArePlaced : Type 0
NamesArePlaced = (stmts : List Stmt) (table : SchemaTable) → build stmts ≡ Ok table → IsTrue (list_all (λ ty. of_each is_placed (out-YangType ty)) table.types)

-- If the offsets in each module differ, the names of the data nodes below each parent differ; children of choices and cases count as the parent's.
abbrev pub DataNamesDiffer : Type 0
DataNamesDiffer =
    (stmts : List Stmt) (table : SchemaTable) → IsTrue (list_all has_own_places stmts) → build stmts ≡ Ok table
    → IsTrue (are_distinct (data_names table))

-- If the offsets in each module differ, the names of a module's RPCs differ, and those of its notifications.
abbrev pub CallNamesDiffer : Type 0
CallNamesDiffer =
    (stmts : List Stmt) (table : SchemaTable) → IsTrue (list_all has_own_places stmts) → build stmts ≡ Ok table
    → IsTrue (are_distinct (kind_names Rpc table)) × IsTrue (are_distinct (kind_names Notification table))

-- A node that is neither RPC nor notification, or has no parent.
abbrev pub stands_at_the_top : NodeInfo → Truth
stands_at_the_top node = not (is_rpc node.kind || is_notification node.kind) || is_none node.parent

-- If the offsets in each module differ, RPCs and notifications are at the top.
abbrev pub CallsStandAtTheTop : Type 0
CallsStandAtTheTop =
    (stmts : List Stmt) (table : SchemaTable) → IsTrue (list_all has_own_places stmts) → build stmts ≡ Ok table
    → IsTrue (list_all stands_at_the_top table.nodes)

-- If the offsets in each module differ: leafs have no children, the children of choices are cases, those of RPCs are inputs and outputs, and
-- these are nowhere else.
abbrev pub NodesStandRight : Type 0
NodesStandRight =
    (stmts : List Stmt) (table : SchemaTable) → IsTrue (list_all has_own_places stmts) → build stmts ≡ Ok table
    → IsTrue (list_all (stands_right table) table.nodes)

-- For a type that is no union: the names of bits are identifiers.
abbrev pub is_spelled : YangType-F YangType → Truth
is_spelled (YangType-F.Bits names positions) = list_all is_identifier names
is_spelled layer = true

-- If the offsets in each module differ and blocks are nested at most 64 deep, the names of bits are identifiers.
abbrev pub BitsAreSpelled : Type 0
BitsAreSpelled =
    (stmts : List Stmt) (table : SchemaTable) → IsTrue (list_all is_readable stmts) → build stmts ≡ Ok table
    → IsTrue (list_all (λ ty. of_each is_spelled (out-YangType ty)) table.types)

-- There are at most as many identities as statements.
abbrev pub IdentitiesAreStatements : Type 0
IdentitiesAreStatements = (stmts : List Stmt) (table : SchemaTable) → build stmts ≡ Ok table → length table.identities ≤ steps_of stmts

-- a union has members
abbrev pub has_members : YangType-F YangType → Truth
has_members (YangType-F.Union members) = not (is_empty members)
has_members layer = true

-- If the offsets in each module differ and blocks are nested at most 64 deep, unions have members.
abbrev pub UnionsHaveMembers : Type 0
UnionsHaveMembers =
    (stmts : List Stmt) (table : SchemaTable) → IsTrue (list_all is_readable stmts) → build stmts ≡ Ok table
    → IsTrue (list_all (λ ty. has_members (out-YangType ty)) table.types)

-- The table of statements that are read from texts is the table of a schema.
abbrev pub TablesAreTables : Type 0
TablesAreTables = (stmts : List Stmt) (table : SchemaTable) → IsTrue (are_readable stmts) → build stmts ≡ Ok table → IsTable table
