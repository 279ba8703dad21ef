-- A table, paths and operations for the examples.
use Rattle.std.specs.Prelude.{ℕ, Bool, true, false, List as Row, [], ◌∷◌, Option, Some, None, codes}
use Rattle.sal_types.specs.declared.value.Atom.TheVariants.{Empty}
use Rattle.sal_types.specs.declared.value.Cell.TheVariants.{Mark}
use Rattle.sal_types.specs.declared.value.Step.{Step}
use Rattle.sal_types.specs.declared.value.Step.TheVariants.{Node, Key}
use Rattle.sal_types.specs.declared.value.Store.{Store}
use Rattle.sal_types.specs.declared.row.Row.{Row as Cellular}
use Rattle.sal_rows.specs.declared.op.Act.{Act}
use Rattle.sal_rows.specs.declared.op.Op.{Op}
use Rattle.sal_restrict.specs.declared.yang_type.YangType.{YangType, roll-YangType}
use Rattle.sal_restrict.specs.declared.yang_type.YangType.TheOpen.{YangType-F}
use Rattle.sal_schema.specs.declared.kind.Kind.{Kind}
use Rattle.sal_schema.specs.declared.kind.Kind.TheVariants.{Container, List, Leaf}
use Rattle.sal_schema.specs.declared.table.NodeInfo.{NodeInfo}
use Rattle.sal_schema.specs.declared.table.SchemaTable.{SchemaTable}

abbrev pub info : Option ℕ → Kind → Row ℕ → Bool → Option ℕ → Row ℕ → NodeInfo
info parent kind name config ty keys =
    record { parent = parent; kind = kind; «module» = 0; name = name; config = Some config; ty = ty; keys = keys; mandatory = false; min_elements = 0; max_elements = None; unique = [] }

abbrev pub depot_info : NodeInfo
depot_info = info None (Container true) (codes "depot") true None []

abbrev pub nodes : Row NodeInfo
nodes =
    depot_info
    ∷ info (Some 0) List (codes "item") true None (2 ∷ [])
    ∷ info (Some 1) Leaf (codes "id") true (Some 0) []
    ∷ info (Some 0) Leaf (codes "name") true (Some 0) []
    ∷ info None (Container false) (codes "state") false None []
    ∷ []

abbrev pub types : Row YangType
types = roll-YangType YangType-F.Empty ∷ []

-- a depot with items and a name, and state data next to it
abbrev pub depot_table : SchemaTable
depot_table = record { nodes = nodes; types = types; modules = codes "shop" ∷ []; identities = [] }

abbrev pub depot : Row Step
depot = Node 0 ∷ []

abbrev pub item : Row Step
item = Node 0 ∷ Node 1 ∷ Key (record { member = 0; atom = Empty } ∷ []) ∷ []

abbrev pub marked : Row Step → Row Cellular
marked path = record { path = path; cell = Mark } ∷ []

abbrev pub op : Store → Row Step → Act → Op
op store path act = record { store = store; path = path; act = act }
