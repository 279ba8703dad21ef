-- Tables and paths for the examples.
use Rattle.std.specs.Prelude.{ℕ, pos, Bool, false, true, List as Row, [], ◌∷◌, ◌++◌, Option, Some, None, codes}
use Rattle.sal_types.specs.declared.value.Atom.TheVariants.{Text, Unsigned}
use Rattle.sal_types.specs.declared.value.Value.{Value}
use Rattle.sal_types.specs.declared.value.Step.{Step}
use Rattle.sal_types.specs.declared.value.Step.TheVariants.{Node, Key}
use Rattle.sal_restrict.specs.declared.ranges.Part.{Part}
use Rattle.sal_restrict.specs.declared.yang_type.YangType.{YangType, roll-YangType}
use Rattle.sal_restrict.specs.declared.yang_type.YangType.TheOpen.{YangType-F}
use Rattle.sal_schema.specs.declared.kind.Kind.{Kind}
use Rattle.sal_schema.specs.declared.kind.Kind.TheVariants.{Container, List, LeafList, Leaf, Choice, Case, Rpc, Input, Output, Notification}
use Rattle.sal_schema.specs.declared.table.NodeInfo.{NodeInfo}
use Rattle.sal_schema.specs.declared.table.IdentityInfo.{IdentityInfo}
use Rattle.sal_schema.specs.declared.table.SchemaTable.{SchemaTable}

-- ---- parts

-- a node without further properties
abbrev pub info : Option ℕ → Kind → ℕ → Row ℕ → Option Bool → Option ℕ → Row ℕ → NodeInfo
info parent kind m name config ty keys =
    record { parent = parent; kind = kind; «module» = m; name = name; config = config; ty = ty; keys = keys; mandatory = false; min_elements = 0; max_elements = None; unique = [] }

-- a configuration node without type and keys, a leaf, and a list
abbrev pub node : Option ℕ → Kind → ℕ → Row ℕ → NodeInfo
node parent kind m name = info parent kind m name (Some true) None []

abbrev pub leaf : Option ℕ → ℕ → Row ℕ → ℕ → NodeInfo
leaf parent m name ty = info parent Leaf m name (Some true) (Some ty) []

abbrev pub state_leaf : Option ℕ → ℕ → Row ℕ → ℕ → NodeInfo
state_leaf parent m name ty = info parent Leaf m name (Some false) (Some ty) []

abbrev pub list : Option ℕ → ℕ → Row ℕ → Row ℕ → NodeInfo
list parent m name keys = info parent List m name (Some true) None keys

abbrev pub part : ℕ → ℕ → Row Part
part low high = record { low = pos low; high = pos high } ∷ []

abbrev pub whole : ℕ → ℕ → ℕ → YangType
whole bits low high = roll-YangType (YangType-F.Int bits false (part low high))

abbrev pub text : ℕ → ℕ → YangType
text low high = roll-YangType (YangType-F.Text (part low high) [])

abbrev pub speed : YangType
speed = roll-YangType (YangType-F.Enum (codes "slow" ∷ codes "fast" ∷ []) (0 ∷ 1 ∷ []))

abbrev pub empty : YangType
empty = roll-YangType YangType-F.Empty

-- ---- a topology, with a site that another module adds to its nodes

abbrev pub upper_nodes : Row NodeInfo
upper_nodes =
    node None (Container false) 0 (codes "network")
    ∷ list (Some 0) 0 (codes "node") (2 ∷ [])
    ∷ leaf (Some 1) 0 (codes "id") 0
    ∷ list (Some 1) 0 (codes "link") (4 ∷ 5 ∷ [])
    ∷ []

abbrev pub topology_nodes : Row NodeInfo
topology_nodes =
    upper_nodes
    ++ leaf (Some 3) 0 (codes "peer") 1
    ∷ leaf (Some 3) 0 (codes "port") 2
    ∷ leaf (Some 3) 0 (codes "speed") 3
    ∷ state_leaf (Some 3) 0 (codes "octets") 4
    ∷ leaf (Some 1) 1 (codes "site") 1
    ∷ []

abbrev pub topology_types : Row YangType
topology_types =
    text 1 8
    ∷ text 0 18446744073709551615
    ∷ whole 16 1 4096
    ∷ speed
    ∷ whole 64 0 18446744073709551615
    ∷ []

abbrev pub topology : SchemaTable
topology = record { nodes = topology_nodes; types = topology_types; modules = codes "topo" ∷ codes "geo" ∷ []; identities = [] }

-- ---- a list with a choice, an RPC and a notification of one name, and two identities

abbrev pub host_nodes : Row NodeInfo
host_nodes =
    list None 0 (codes "host") (1 ∷ [])
    ∷ leaf (Some 0) 0 (codes "n") 0
    ∷ node (Some 0) Choice 0 (codes "way")
    ∷ node (Some 2) Case 0 (codes "slow")
    ∷ leaf (Some 3) 0 (codes "slow") 1
    ∷ []

abbrev pub mixed_nodes : Row NodeInfo
mixed_nodes =
    host_nodes
    ++ node None (Container true) 0 (codes "ping")
    ∷ info None Rpc 0 (codes "ping") None None []
    ∷ info None Notification 0 (codes "ping") None None []
    ∷ []

abbrev pub identity : Row ℕ → Row ℕ → IdentityInfo
identity name bases = record { name = name; «module» = 0; derived_from = bases }

abbrev pub mixed_types : Row YangType
mixed_types = whole 8 0 255 ∷ empty ∷ []

abbrev pub mixed_identities : Row IdentityInfo
mixed_identities = identity (codes "base") [] ∷ identity (codes "derived") (0 ∷ []) ∷ []

abbrev pub mixed : SchemaTable
mixed = record { nodes = mixed_nodes; types = mixed_types; modules = codes "rule" ∷ []; identities = mixed_identities }

-- ---- an RPC, a leaf-list and a notification

abbrev pub messages : SchemaTable
messages = record {
  nodes = info None Rpc 0 (codes "ping") None None []
      ∷ info (Some 0) Input 0 (codes "input") None None []
      ∷ info (Some 1) LeafList 0 (codes "n") None (Some 0) []
      ∷ info (Some 0) Output 0 (codes "output") None None []
      ∷ [];
  types = whole 8 0 255 ∷ [];
  modules = codes "shop" ∷ [];
  identities = [];
}

-- ---- paths

abbrev pub named_node : Row ℕ → Row Step
named_node name = Node 0 ∷ Node 1 ∷ Key (record { member = 0; atom = Text name } ∷ []) ∷ []

abbrev pub number : ℕ → Value
number n = record { member = 0; atom = Unsigned n }
