-- A schema and names for the examples.
use Rattle.std.specs.Prelude.{ℕ, zero, suc, ◌+◌, true, false, List as Row, [], ◌∷◌, ◌++◌, Option, Some, None, Result, codes}
use Prim.Native.String.{String}
use Rattle.sal_types.specs.declared.value.Atom.{Atom}
use Rattle.sal_types.specs.declared.value.Atom.TheVariants.{Text, Unsigned}
use Rattle.sal_types.specs.declared.value.Value.{Value}
use Rattle.sal_types.specs.declared.value.Step.{Step}
use Rattle.sal_types.specs.declared.value.Step.TheVariants.{Node, Key}
use Rattle.sal_schema.specs.declared.kind.Kind.TheVariants.{Container, LeafList}
use Rattle.sal_schema.specs.declared.table.NodeInfo.{NodeInfo}
use Rattle.sal_schema.specs.declared.table.SchemaTable.{SchemaTable}
use Rattle.sal_schema.specs.Examples.{info, topology_nodes, topology_types}
use Rattle.sal_pathtext.specs.declared.fault.PathTextFault.{PathTextFault}
use Rattle.sal_pathtext.specs.Read.{read_path}
use Rattle.sal_pathtext.specs.Written.{written}

-- ---- a topology with a leaf-list

abbrev pub seen : NodeInfo
seen = info (Some 0) LeafList 0 (codes "seen") (Some true) (Some 2) []

abbrev pub network : SchemaTable
network = record { nodes = topology_nodes ++ seen ∷ []; types = topology_types; modules = codes "topo" ∷ codes "geo" ∷ []; identities = [] }

abbrev pub value : Atom → Value
value atom = record { member = 0; atom = atom }

abbrev pub text : String → Value
text t = value (Text (codes t))

abbrev pub number : ℕ → Value
number n = value (Unsigned n)

-- ---- readings and writings

abbrev pub reads : String → Result (Row Step) PathTextFault
reads t = read_path network (codes t)

abbrev pub writes : Row Step → Row ℕ
writes path = written network path

-- a node of the network
abbrev pub node : String → Row Step
node id = Node 0 ∷ Node 1 ∷ Key (text id ∷ []) ∷ []

-- a link of the node `a`
abbrev pub link : String → ℕ → Row Step
link peer port = node "a" ++ Node 3 ∷ Key (text peer ∷ number port ∷ []) ∷ []

-- ---- containers in one another

-- n containers, of which the first has the number k and is below this node
abbrev pub chain : ℕ → Option ℕ → ℕ → Row NodeInfo
chain k parent zero = []
chain k parent (suc n) = info parent (Container false) 0 (codes "c") (Some true) None [] ∷ chain (k + 1) (Some k) n

abbrev pub deep : SchemaTable
deep = record { nodes = chain 0 None 33; types = []; modules = codes "m" ∷ []; identities = [] }

-- the names of n of them
abbrev pub names : ℕ → Row ℕ
names zero = []
names (suc n) = codes "/c" ++ names n

-- the steps to n of them, from this one on
abbrev pub down_from : ℕ → ℕ → Row Step
down_from k zero = []
down_from k (suc n) = Node k ∷ down_from (k + 1) n

-- the steps to it
abbrev pub down : ℕ → Row Step
down n = down_from 0 n
