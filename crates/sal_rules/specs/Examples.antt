-- Tables and trees for the examples.
use Rattle.std.specs.Prelude.{ℕ, Bool, false, true, List as Row, [], ◌∷◌, ◌++◌, Option, Some, None}
use Rattle.sal_types.specs.declared.value.Step.{Step}
use Rattle.sal_types.specs.declared.value.Step.TheVariants.{Node, Key, Item}
use Rattle.sal_types.specs.declared.value.Cell.TheVariants.{Mark, Leaf as Held}
use Rattle.sal_types.specs.declared.row.Row.{Row as TreeRow}
use Rattle.sal_schema.specs.declared.kind.Kind.{Kind}
use Rattle.sal_schema.specs.declared.kind.Kind.TheVariants.{Container, List, LeafList, Leaf, Choice, Case}
use Rattle.sal_schema.specs.declared.table.NodeInfo.{NodeInfo}
use Rattle.sal_schema.specs.declared.table.SchemaTable.{SchemaTable}
use Rattle.sal_rows.specs.declared.outcome.Breach.{Breach}
use Rattle.sal_rows.specs.declared.outcome.Rule.{Rule}
pub use Rattle.sal_schema.specs.Examples.{number}

-- ---- parts

abbrev pub info : Option ℕ → Kind → Option Bool → Bool → ℕ → Option ℕ → Row ℕ → Row (Row ℕ) → NodeInfo
info parent kind config mandatory least most keys unique =
    record { parent = parent; kind = kind; «module» = 0; name = []; config = config; ty = None; keys = keys; mandatory = mandatory; min_elements = least; max_elements = most; unique = unique }

-- configuration nodes without further properties, or mandatory ones
abbrev pub node : Option ℕ → Kind → NodeInfo
node parent kind = info parent kind (Some true) false 0 None [] []

abbrev pub mandatory : Option ℕ → Kind → NodeInfo
mandatory parent kind = info parent kind (Some true) true 0 None [] []

abbrev pub table : Row NodeInfo → SchemaTable
table nodes = record { nodes = nodes; types = []; modules = [] ∷ []; identities = [] }

abbrev pub mark : Row Step → TreeRow
mark path = record { path = path; cell = Mark }

abbrev pub held : Row Step → ℕ → TreeRow
held path n = record { path = path; cell = Held (number n) }

abbrev pub broken_at : Row Step → Rule → Option Breach
broken_at path rule = Some (record { path = path; rule = rule })

-- ---- hosts: a mandatory leaf (2), one to two items (3), and a mandatory choice (4) with a mandatory leaf in its first case (7)

abbrev pub hosts : SchemaTable
hosts = table (
    info None List (Some true) false 0 None (1 ∷ []) []
    ∷ node (Some 0) Leaf
    ∷ mandatory (Some 0) Leaf
    ∷ info (Some 0) LeafList (Some true) false 1 (Some 2) [] []
    ∷ mandatory (Some 0) Choice
    ∷ node (Some 4) Case
    ∷ node (Some 5) Leaf
    ∷ mandatory (Some 5) Leaf
    ∷ node (Some 4) Case
    ∷ node (Some 8) Leaf
    ∷ [])

abbrev pub host : Row Step
host = Node 0 ∷ Key (number 1 ∷ []) ∷ []

abbrev pub leaf_of_host : ℕ → TreeRow
leaf_of_host n = held (host ++ Node n ∷ []) 1

abbrev pub item_of_host : ℕ → TreeRow
item_of_host n = mark (host ++ Node 3 ∷ Item (number n) ∷ [])

-- the entry with its key leaf, and some rows
abbrev pub host_with : Row TreeRow → Row TreeRow
host_with rows = mark host ∷ leaf_of_host 1 ∷ rows

-- ---- a top-level container without presence (0) with a mandatory leaf (1), and such a container in it (2) with one (3); a
-- presence container (4) with such a container (5) with a mandatory leaf (6); and a mandatory leaf at the top (7)

abbrev pub tops : SchemaTable
tops = table (
    node None (Container false)
    ∷ mandatory (Some 0) Leaf
    ∷ node (Some 0) (Container false)
    ∷ mandatory (Some 2) Leaf
    ∷ node None (Container true)
    ∷ node (Some 4) (Container false)
    ∷ mandatory (Some 5) Leaf
    ∷ mandatory None Leaf
    ∷ [])

-- ---- items, unique in a leaf (2) together with one (4) in a container

abbrev pub items : SchemaTable
items = table (
    info None List (Some true) false 0 None (1 ∷ []) ((2 ∷ 4 ∷ []) ∷ [])
    ∷ node (Some 0) Leaf
    ∷ node (Some 0) Leaf
    ∷ node (Some 0) (Container false)
    ∷ node (Some 3) Leaf
    ∷ [])

abbrev pub item : ℕ → Row Step
item n = Node 0 ∷ Key (number n ∷ []) ∷ []

-- an item with the code and the port
abbrev pub item_with : ℕ → ℕ → ℕ → Row TreeRow
item_with n code port = mark (item n) ∷ held (item n ++ Node 1 ∷ []) n ∷ held (item n ++ Node 2 ∷ []) code ∷ held (item n ++ Node 3 ∷ Node 4 ∷ []) port ∷ []

-- one without a port
abbrev pub item_without : ℕ → ℕ → Row TreeRow
item_without n code = mark (item n) ∷ held (item n ++ Node 1 ∷ []) n ∷ held (item n ++ Node 2 ∷ []) code ∷ []

-- ---- state: a leaf-list (1) of at most one item in a container (0), both `config false`

abbrev pub states : SchemaTable
states = table (
    info None (Container false) (Some false) false 0 None [] []
    ∷ info (Some 0) LeafList (Some false) false 0 (Some 1) [] []
    ∷ [])

abbrev pub two_seen : Row TreeRow
two_seen = mark (Node 0 ∷ Node 1 ∷ Item (number 1) ∷ []) ∷ mark (Node 0 ∷ Node 1 ∷ Item (number 2) ∷ []) ∷ []
