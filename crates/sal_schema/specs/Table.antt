-- Properties of the nodes, modules and identities of a table.
use Rattle.std.specs.Prelude.{ℕ, zero, suc, ◌+◌, Bool, true, false, not, ◌&&◌, ◌==◌, nat_eq, List, [], ◌∷◌, ◌++◌, length, Option, Some, None, option_map, option_and_then, slice_index_or, if◌then◌else◌}
use Rattle.std.specs.List.{slice_get, list_any}
use Rattle.std.specs.Option.{option_map_or, option_eq}
use Rattle.sal_schema.specs.declared.kind.Kind.{Kind}
use Rattle.sal_schema.specs.declared.table.NodeInfo.{NodeInfo}
use Rattle.sal_schema.specs.declared.table.IdentityInfo.{IdentityInfo}
use Rattle.sal_schema.specs.declared.table.SchemaTable.{SchemaTable}
use Rattle.sal_schema.specs.Kinds.{is_choice_or_case, is_data, is_list}

-- ---- lists with the numbers of their elements

-- the results of f at each element with its number, joined in order; the first has the number i
abbrev pub each_from : {X Y : Type 0} → (ℕ → X → List Y) → ℕ → List X → List Y
each_from f i [] = []
each_from f i (x ∷ xs) = f i x ++ each_from f (i + 1) xs

-- the test holds of each element with its number
abbrev pub all_from : {X : Type 0} → (ℕ → X → Bool) → ℕ → List X → Bool
all_from test i [] = true
all_from test i (x ∷ xs) = test i x && all_from test (i + 1) xs

-- the number is among these
abbrev pub is_among : ℕ → List ℕ → Bool
is_among n ns = list_any (λ m. m == n) ns

abbrev pub is_same : Option ℕ → Option ℕ → Bool
is_same = option_eq nat_eq

-- ---- a node by its number

abbrev pub node_at : SchemaTable → ℕ → Option NodeInfo
node_at table n = slice_get table.nodes n

abbrev pub kind_of : SchemaTable → ℕ → Option Kind
kind_of table n = option_map (λ (node : NodeInfo). node.kind) (node_at table n)

-- a node of that number exists, and its kind passes the test
abbrev pub is_kind : (Kind → Bool) → SchemaTable → ℕ → Bool
is_kind test table n = option_map_or test (kind_of table n) false

abbrev pub parent_of : SchemaTable → ℕ → Option ℕ
parent_of table n = option_and_then (λ (node : NodeInfo). node.parent) (node_at table n)

abbrev pub keys_of : SchemaTable → ℕ → List ℕ
keys_of table n = option_map_or (λ (node : NodeInfo). node.keys) (node_at table n) []

abbrev pub type_of : SchemaTable → ℕ → Option ℕ
type_of table n = option_and_then (λ (node : NodeInfo). node.ty) (node_at table n)

-- whether a node is configuration; of none inside RPCs and notifications
abbrev pub config_of : SchemaTable → ℕ → Option Bool
config_of table n = option_and_then (λ (node : NodeInfo). node.config) (node_at table n)

abbrev pub module_of : SchemaTable → ℕ → Option ℕ
module_of table n = option_map (λ (node : NodeInfo). node.module) (node_at table n)

abbrev pub name_of : SchemaTable → ℕ → List ℕ
name_of table n = option_map_or (λ (node : NodeInfo). node.name) (node_at table n) []

abbrev pub is_mandatory : SchemaTable → ℕ → Bool
is_mandatory table n = option_map_or (λ (node : NodeInfo). node.mandatory) (node_at table n) false

abbrev pub min_elements : SchemaTable → ℕ → ℕ
min_elements table n = option_map_or (λ (node : NodeInfo). node.min_elements) (node_at table n) 0

abbrev pub max_elements : SchemaTable → ℕ → Option ℕ
max_elements table n = option_and_then (λ (node : NodeInfo). node.max_elements) (node_at table n)

abbrev pub uniques_of : SchemaTable → ℕ → List (List ℕ)
uniques_of table n = option_map_or (λ (node : NodeInfo). node.unique) (node_at table n) []

-- a state node: `config false`
abbrev pub is_state : SchemaTable → ℕ → Bool
is_state table n = option_map_or (λ config. if config then false else true) (config_of table n) false

abbrev pub module_name : SchemaTable → ℕ → List ℕ
module_name table m = slice_index_or table.modules m []

-- ---- an identity by its number

abbrev pub identity_at : SchemaTable → ℕ → Option IdentityInfo
identity_at table i = slice_get table.identities i

abbrev pub identity_name : SchemaTable → ℕ → List ℕ
identity_name table i = option_map_or (λ (identity : IdentityInfo). identity.name) (identity_at table i) []

abbrev pub identity_module : SchemaTable → ℕ → Option ℕ
identity_module table i = option_map (λ (identity : IdentityInfo). identity.module) (identity_at table i)

-- an identity is derived from another through one or more `base` statements
abbrev pub is_derived : SchemaTable → ℕ → ℕ → Bool
is_derived table i base = option_map_or (λ (identity : IdentityInfo). is_among base identity.derived_from) (identity_at table i) false

-- ---- above and below

-- the children of a node, or of the top, among nodes of which the first has the number i
abbrev pub child_at : Option ℕ → ℕ → NodeInfo → List ℕ
child_at parent n node = if is_same node.parent parent then n ∷ [] else []

abbrev pub children_in : ℕ → List NodeInfo → Option ℕ → List ℕ
children_in i nodes parent = each_from (child_at parent) i nodes

-- the children in the schema tree, choices and cases included, by number
abbrev pub children_of : SchemaTable → Option ℕ → List ℕ
children_of table parent = children_in 0 table.nodes parent

-- the closest node whose kind passes the test, from this one up, within `steps` nodes
unfoldable pub closest : (Kind → Bool) → SchemaTable → ℕ → Option ℕ → Option ℕ
closest test table zero here = None
closest test table (suc steps) None = None
closest test table (suc steps) (Some n) = if is_kind test table n then Some n else closest test table steps (parent_of table n)

-- the data parent of the children of this node: the node itself, but not a choice or a case
abbrev pub data_node : SchemaTable → Option ℕ → Option ℕ
data_node table here = closest (λ kind. not (is_choice_or_case kind)) table (length table.nodes) here

abbrev pub data_parent : SchemaTable → ℕ → Option ℕ
data_parent table n = data_node table (parent_of table n)

-- a data node whose data parent is this one, or the top; the search goes through choices and cases
abbrev pub is_data_child : SchemaTable → Option ℕ → ℕ → Bool
is_data_child table parent n = is_kind is_data table n && is_same (data_parent table n) parent

-- the closest list above a node
abbrev pub list_above : SchemaTable → ℕ → Option ℕ
list_above table n = closest is_list table (length table.nodes) (parent_of table n)
