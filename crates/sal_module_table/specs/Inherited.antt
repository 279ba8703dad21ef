-- Properties that a node has from its parent.
use Rattle.std.specs.Prelude.{◌≡◌, ℕ, zero, suc, ◌<◌, Bool, true, nat_lt, List, length, Option, Some, None, option_map, unwrap_or, slice_index_or, if◌then◌else◌}
use Rattle.std.specs.List.{slice_get}
use Rattle.std.specs.Option.{option_map_or}
use Rattle.sal_stmt.specs.declared.stmt.Stmt.{Stmt}
use Rattle.sal_grouping.specs.declared.forest.Branch.{Branch}
use Rattle.sal_schema.specs.declared.kind.Kind.{Kind}
use Rattle.sal_schema.specs.Kinds.{is_choice_or_case}
use Rattle.sal_module_table.specs.Nodes.{own_stmt, own_config, kind_of, is_operation}

-- ---- from the parent

-- the property of the parent, or `top` if there is none
abbrev pub over : {A : Type 0} → (ℕ → A) → A → Option ℕ → A
over at top None = top
over at top (Some p) = at p

-- the property that node k has from its parent. The parent's number is smaller; for any other the property is `top`.
abbrev pub above : {A : Type 0} → (ℕ → A) → A → ℕ → Option ℕ → A
above at top k None = top
above at top k (Some p) = if nat_lt p k then at p else top

-- The property of node k: f computes it from the node, its number and the parent's property. A path up has at most k steps.
unfoldable pub inherited : {A : Type 0} → (Branch → ℕ → A → A) → A → ℕ → List Branch → ℕ → A
inherited f top zero forest k = top
inherited f top (suc n) forest k = option_map_or (λ b. f b k (above (inherited f top n forest) top k b.parent)) (slice_get forest k) top

abbrev pub from_above : {A : Type 0} → (Branch → ℕ → A → A) → A → List Branch → ℕ → A
from_above f top forest k = inherited f top (length forest) forest k

-- the list has the property of each node
pub record AreInherited {A : Type 0} (f : Branch → ℕ → A → A) (top : A) (forest : List Branch) (all : List A) : Type 0 where
  pub count : length all ≡ length forest
  pub each : (k : ℕ) (d : A) → k < length forest → slice_index_or all k d ≡ from_above f top forest k

-- ---- config

-- Its own `config`, or that of the parent: `true` at the top, and none in operations (RFC 7950 section 7.21.1).
abbrev pub config_in : Kind → Option Stmt → Option Bool → Option Bool
config_in kind own over = if is_operation kind then None else option_map (λ config. unwrap_or (own_config own) config) over

abbrev pub with_config : List Stmt → Branch → ℕ → Option Bool → Option Bool
with_config stmts b k over = config_in (kind_of stmts b) (own_stmt stmts b) over

abbrev pub config_of : List Stmt → List Branch → ℕ → Option Bool
config_of stmts forest k = from_above (with_config stmts) (Some true) forest k

-- of the parent
abbrev pub config_above : List Stmt → List Branch → Option ℕ → Option Bool
config_above stmts forest parent = over (config_of stmts forest) (Some true) parent

-- ---- data parents

-- the data parent of the children of this node: choices and cases are skipped
abbrev pub data_node_in : Kind → ℕ → Option ℕ → Option ℕ
data_node_in kind k over = if is_choice_or_case kind then over else Some k

abbrev pub with_data_node : List Stmt → Branch → ℕ → Option ℕ → Option ℕ
with_data_node stmts b k over = data_node_in (kind_of stmts b) k over

abbrev pub data_node : List Stmt → List Branch → ℕ → Option ℕ
data_node stmts forest k = from_above (with_data_node stmts) None forest k

-- the data parent of the children of `parent`
abbrev pub data_parent : List Stmt → List Branch → Option ℕ → Option ℕ
data_parent stmts forest parent = over (data_node stmts forest) None parent
