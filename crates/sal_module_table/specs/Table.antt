-- The nodes of the table, one for each branch of the forest.
use Rattle.std.specs.Prelude.{ℕ, ◌+◌, Bool, List, [], ◌∷◌, filter, take, length, Option, Some, None, if◌then◌else◌}
use Rattle.sal_stmt.specs.declared.stmt.Stmt.{Stmt}
use Rattle.sal_grouping.specs.declared.forest.Branch.{Branch}
use Rattle.sal_schema.specs.declared.table.NodeInfo.{NodeInfo}
use Rattle.sal_schema.specs.Kinds.{has_type}
use Rattle.sal_module_table.specs.Nodes.{kind_of, name_of, own_stmt, is_mandatory, min_elements, max_elements}
use Rattle.sal_module_table.specs.Inherited.{config_of}
use Rattle.sal_module_table.specs.Lists.{keys_of, uniques_of}

-- Each leaf and leaf-list has its own type, numbered in their order.
abbrev pub is_typed : List Stmt → Branch → Bool
is_typed stmts b = has_type (kind_of stmts b)

abbrev pub types_before : List Stmt → List Branch → ℕ → ℕ
types_before stmts forest k = length (filter (is_typed stmts) (take k forest))

abbrev pub type_number : List Stmt → Branch → ℕ → Option ℕ
type_number stmts b n = if is_typed stmts b then Some n else None

abbrev pub info_of : List Stmt → List Branch → ℕ → Branch → NodeInfo
info_of stmts forest k b = record {
  parent = b.parent;
  kind = kind_of stmts b;
  «module» = b.module;
  name = name_of stmts b;
  config = config_of stmts forest k;
  ty = type_number stmts b (types_before stmts forest k);
  keys = keys_of stmts forest k b;
  mandatory = is_mandatory (own_stmt stmts b);
  min_elements = min_elements (own_stmt stmts b);
  max_elements = max_elements (own_stmt stmts b);
  unique = uniques_of stmts forest k b;
}

-- of the nodes from this one on
abbrev pub infos_from : List Stmt → List Branch → ℕ → List Branch → List NodeInfo
infos_from stmts forest k [] = []
infos_from stmts forest k (b ∷ rest) = info_of stmts forest k b ∷ infos_from stmts forest (k + 1) rest

abbrev pub infos_of : List Stmt → List Branch → List NodeInfo
infos_of stmts forest = infos_from stmts forest 0 forest
