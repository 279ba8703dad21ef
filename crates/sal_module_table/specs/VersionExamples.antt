-- Two modules for the examples: `topo` has the nodes of a network. The later `geo` adds a leaf to each of them, and has a container.
use Rattle.std.specs.Prelude.{ℕ, false, List as Row, [], ◌∷◌, ◌++◌, Option, Some, None, codes}
use Rattle.sal_stmt.specs.declared.stmt.Stmt.{Stmt}
use Rattle.sal_module.specs.Examples.{plain}
use Rattle.sal_grouping.specs.declared.forest.Branch.{Branch}
use Rattle.sal_schema.specs.declared.kind.Kind.TheVariants.{Container}
use Rattle.sal_schema.specs.declared.table.NodeInfo.{NodeInfo}
use Rattle.sal_schema.specs.Examples.{node, leaf, list}

-- ---- statements

abbrev pub id : Stmt
id = plain "leaf" 30 "id" (plain "type" 32 "string" [] ∷ [])

abbrev pub a_node : Stmt
a_node = plain "list" 20 "node" (plain "key" 22 "id" [] ∷ id ∷ [])

abbrev pub network : Stmt
network = plain "container" 10 "network" (a_node ∷ [])

abbrev pub topo : Stmt
topo = plain "module" 0 "topo" (plain "prefix" 5 "t" [] ∷ network ∷ [])

abbrev pub site : Stmt
site = plain "leaf" 30 "site" (plain "type" 32 "string" [] ∷ [])

abbrev pub map : Stmt
map = plain "container" 40 "map" []

abbrev pub geo : Stmt
geo = plain "module" 0 "geo" (plain "prefix" 5 "g" [] ∷ plain "augment" 20 "/t:network/t:node" (site ∷ []) ∷ map ∷ [])

-- ---- their nodes

abbrev pub branch : Option ℕ → ℕ → ℕ → Branch
branch parent m at = record { parent = parent; «module» = m; source = m; at = at; implied = None }

abbrev pub first_nodes : Row Branch
first_nodes = branch None 0 10 ∷ branch (Some 0) 0 20 ∷ branch (Some 1) 0 30 ∷ []

-- the node of the new module, then that of its augment
abbrev pub later_nodes : Row Branch
later_nodes = branch None 0 10 ∷ branch (Some 0) 0 20 ∷ branch (Some 1) 0 30 ∷ branch None 1 40 ∷ branch (Some 1) 1 30 ∷ []

-- ---- their lines in the tables

abbrev pub first_lines : Row NodeInfo
first_lines = node None (Container false) 0 (codes "network") ∷ list (Some 0) 0 (codes "node") (2 ∷ []) ∷ leaf (Some 1) 0 (codes "id") 0 ∷ []

abbrev pub later_lines : Row NodeInfo
later_lines = first_lines ++ node None (Container false) 1 (codes "map") ∷ leaf (Some 1) 1 (codes "site") 1 ∷ []
