-- Tables of a schema, and tables that are of none.
use Rattle.std.specs.Prelude.{ℕ, ℤ, pos, Bool, true, false, List as Row, [], ◌∷◌, Option, Some, None, codes}
use Prim.Native.String.{String}
use Rattle.sal_restrict.specs.declared.yang_type.YangType.{YangType, roll-YangType}
use Rattle.sal_restrict.specs.declared.yang_type.YangType.TheOpen.{YangType-F}
use Rattle.sal_schema.specs.declared.kind.Kind.{Kind}
use Rattle.sal_schema.specs.declared.kind.Kind.TheVariants.{Container, List, Leaf, Choice, Case, Rpc, Input, Notification}
use Rattle.sal_schema.specs.declared.table.NodeInfo.{NodeInfo}
use Rattle.sal_schema.specs.declared.table.IdentityInfo.{IdentityInfo}
use Rattle.sal_schema.specs.declared.table.SchemaTable.{SchemaTable}

-- ---- parts: nodes by their parent, kind and name

abbrev pub info : Option ℕ → Kind → String → Option Bool → Option ℕ → Row ℕ → Row (Row ℕ) → NodeInfo
info parent kind name config ty keys unique =
    record { parent = parent; kind = kind; «module» = 0; name = codes name; config = config; ty = ty; keys = keys; mandatory = false; min_elements = 0; max_elements = None; unique = unique }

abbrev pub node : Option ℕ → Kind → String → NodeInfo
node parent kind name = info parent kind name (Some true) None [] []

-- an RPC or a notification, at the top
abbrev pub message : Kind → String → NodeInfo
message kind name = info None kind name None None [] []

-- a leaf of the first type
abbrev pub leaf : Option ℕ → String → NodeInfo
leaf parent name = info parent Leaf name (Some true) (Some 0) [] []

-- a list with these keys and `unique` statements
abbrev pub entries : Option ℕ → String → Row ℕ → Row (Row ℕ) → NodeInfo
entries parent name keys unique = info parent List name (Some true) None keys unique

-- a whole number of 8 bits, and a union of one type
abbrev pub number : Bool → ℤ → ℤ → YangType
number signed low high = roll-YangType (YangType-F.Int 8 signed (record { low = low; high = high } ∷ []))

abbrev pub union : YangType → YangType
union member = roll-YangType (YangType-F.Union (member ∷ []))

abbrev pub small : YangType
small = number true (pos 0) (pos 127)

abbrev pub identity : String → Row ℕ → IdentityInfo
identity name bases = record { name = codes name; «module» = 0; derived_from = bases }

-- the table of one module
abbrev pub table : Row YangType → Row IdentityInfo → Row NodeInfo → SchemaTable
table types identities nodes = record { nodes = nodes; types = types; modules = codes "rule" ∷ []; identities = identities }

-- of these nodes, with one type and one identity
abbrev pub of_nodes : Row NodeInfo → SchemaTable
of_nodes nodes = table (small ∷ []) (identity "base" [] ∷ []) nodes

-- ---- tables of a schema

-- a list with a choice, and a container, an RPC and a notification of one name
abbrev pub one_name : Row NodeInfo
one_name =
    entries None "host" (1 ∷ []) []
    ∷ leaf (Some 0) "n"
    ∷ node (Some 0) Choice "way"
    ∷ node (Some 2) Case "slow"
    ∷ info (Some 3) Leaf "slow" (Some true) (Some 1) [] []
    ∷ node None (Container true) "ping"
    ∷ message Rpc "ping"
    ∷ message Notification "ping"
    ∷ []

-- a list with a key, a unique leaf and a choice, an RPC with an input, and a notification
abbrev pub good : Row NodeInfo
good =
    entries None "host" (1 ∷ []) ((2 ∷ []) ∷ [])
    ∷ leaf (Some 0) "n"
    ∷ leaf (Some 0) "m"
    ∷ node (Some 0) Choice "way"
    ∷ node (Some 3) Case "way"
    ∷ leaf (Some 4) "way"
    ∷ message Rpc "host"
    ∷ node (Some 6) Input "input"
    ∷ leaf (Some 7) "n"
    ∷ message Notification "host"
    ∷ []

abbrev pub tables : Row SchemaTable
tables =
    table (number false (pos 0) (pos 255) ∷ roll-YangType YangType-F.Empty ∷ []) (identity "base" [] ∷ identity "derived" (0 ∷ []) ∷ []) one_name
    ∷ of_nodes good
    ∷ of_nodes []
    ∷ table (union small ∷ []) (identity "base" [] ∷ []) good
    ∷ []

-- ---- and of none

abbrev pub wrong_parents : Row SchemaTable
wrong_parents =
    -- it is after its node
    of_nodes (leaf (Some 1) "n" ∷ node None (Container false) "c" ∷ [])
    -- it is a leaf
    ∷ of_nodes (leaf None "n" ∷ node (Some 0) (Container false) "c" ∷ [])
    -- a case without a choice
    ∷ of_nodes (node None Case "c" ∷ [])
    -- an RPC below a container
    ∷ of_nodes (node None (Container false) "c" ∷ info (Some 0) Rpc "r" None None [] [] ∷ [])
    ∷ []

abbrev pub wrong_leafs : Row SchemaTable
wrong_leafs =
    -- a leaf without a type
    of_nodes (info None Leaf "n" (Some true) None [] [] ∷ [])
    -- a list without a key, with a repeated key, and with a key that is no child of it
    ∷ of_nodes (entries None "host" [] [] ∷ [])
    ∷ of_nodes (entries None "host" (1 ∷ 1 ∷ []) [] ∷ leaf (Some 0) "n" ∷ [])
    ∷ of_nodes (entries None "host" (1 ∷ []) [] ∷ leaf None "n" ∷ [])
    -- a unique leaf in a list between
    ∷ of_nodes (entries None "host" (1 ∷ []) ((3 ∷ []) ∷ []) ∷ leaf (Some 0) "n" ∷ entries (Some 0) "port" (3 ∷ []) [] ∷ leaf (Some 2) "n" ∷ [])
    ∷ []

abbrev pub wrong_names : Row SchemaTable
wrong_names =
    -- a name in two cases
    of_nodes (node None Choice "c" ∷ node (Some 0) Case "d" ∷ leaf (Some 1) "n" ∷ node (Some 0) Case "e" ∷ leaf (Some 3) "n" ∷ [])
    -- a name that is none
    ∷ of_nodes (node None (Container false) "1c" ∷ [])
    ∷ []

abbrev pub wrong_types : Row SchemaTable
wrong_types =
    -- a union in a union, and a number that the type does not have
    table (union (union small) ∷ []) (identity "base" [] ∷ []) good
    ∷ table (number true (pos 0) (pos 128) ∷ []) (identity "base" [] ∷ []) good
    ∷ []

abbrev pub wrong_identities : Row SchemaTable
wrong_identities =
    -- derived from itself, and from none that is there
    table (small ∷ []) (identity "base" (0 ∷ []) ∷ []) good
    ∷ table (small ∷ []) (identity "base" (1 ∷ []) ∷ []) good
    ∷ []
