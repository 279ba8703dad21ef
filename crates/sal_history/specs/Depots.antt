-- Worked examples over a depot, which is a presence container with a name and a list of items, and a list of seen entries.
use Rattle.std.specs.Prelude.{ℕ, true, false, List, [], ◌∷◌, ◌++◌, Some, None}
use Rattle.sal_types.specs.declared.value.Step.{Step}
use Rattle.sal_types.specs.declared.value.Step.TheVariants.{Node, Key, Item}
use Rattle.sal_types.specs.declared.row.Row.{Row}
use Rattle.sal_rows.specs.declared.clash.Rules.TheVariants.{One}
use Rattle.sal_schema.specs.declared.kind.Kind.TheVariants.{Container, List as Entries, LeafList, Leaf as Scalar}
use Rattle.sal_schema.specs.declared.table.SchemaTable.{SchemaTable}
use Rattle.sal_rules.specs.Examples.{info, node, table, number, mark, held}
use Rattle.sal_history.specs.World.{Domain}
pub use Rattle.sal_rows.specs.Examples.{depot, name}

-- The depot (0) with its name (1) and its items (2), each with an id (3), a code (4) that is unique, and a note (5);
-- and a `config false` container (6) with at most two entries `seen` (7).
abbrev pub depots : SchemaTable
depots = table (
    node None (Container true)
    ∷ node (Some 0) Scalar
    ∷ info (Some 0) Entries (Some true) false 0 None (3 ∷ []) ((4 ∷ []) ∷ [])
    ∷ node (Some 2) Scalar
    ∷ node (Some 2) Scalar
    ∷ node (Some 2) Scalar
    ∷ info None (Container false) (Some false) false 0 None [] []
    ∷ info (Some 6) LeafList (Some false) false 0 (Some 2) [] []
    ∷ [])

-- a world of one domain with these rows in its configuration
abbrev pub stocked : List Row → List Domain
stocked rows = record { table = depots; upgrades = []; opening = record { config = rows; oper = [] }; rules = One } ∷ []

-- the list of the items, and one item of it
abbrev pub items : List Step
items = Node 0 ∷ Node 2 ∷ []

abbrev pub item : ℕ → List Step
item id = items ++ Key (number id ∷ []) ∷ []

abbrev pub code : ℕ → List Step
code id = item id ++ Node 4 ∷ []

abbrev pub note : ℕ → List Step
note id = item id ++ Node 5 ∷ []

-- the rows of an item, without and with a code
abbrev pub plain_item : ℕ → List Row
plain_item id = mark (item id) ∷ held (item id ++ Node 3 ∷ []) id ∷ []

abbrev pub coded_item : ℕ → ℕ → List Row
coded_item id number = mark (item id) ∷ held (item id ++ Node 3 ∷ []) id ∷ held (code id) number ∷ []

-- the entries `seen`
abbrev pub seen : List Step
seen = Node 6 ∷ Node 7 ∷ []

abbrev pub three_seen : List Row
three_seen = mark (seen ++ Item (number 1) ∷ []) ∷ mark (seen ++ Item (number 2) ∷ []) ∷ mark (seen ++ Item (number 3) ∷ []) ∷ []
