-- The targets of leafrefs, and the types of nodes (RFC 7950 sections 6.4.1 and 9.9).
use Rattle.std.specs.Prelude.{◌≡◌, ◌≤◌, ℕ, zero, suc, ◌-◌, ◌==◌, Bool, true, false, ◌&&◌, List, [], ◌∷◌, ◌++◌, map, find, length, take, Option, Some, None, option_map, option_and_then, if◌then◌else◌}
use Rattle.std.specs.List.{flat_map, enumerate_from, slice_get}
use Rattle.std.specs.Option.{option_map_or, option_to_list}
use Rattle.sal_stmt.specs.Words.{colon_at}
use Rattle.sal_stmt.specs.declared.stmt.Stmt.{Stmt}
use Rattle.sal_module.specs.declared.keyword.Keyword.TheVariants as word
use Rattle.sal_module.specs.declared.fault.Cause.TheVariants.{BadTarget, NameCycle}
use Rattle.sal_module.specs.declared.fault.Found.{Found}
use Rattle.sal_module.specs.Keywords.{same}
use Rattle.sal_module.specs.Modules.{imported}
use Rattle.sal_module.specs.Statements.{is_named, subs_of, value_of}
use Rattle.sal_module.specs.Profile.{at_stmt}
use Rattle.sal_restrict.specs.declared.yang_type.YangType.{YangType}
use Rattle.sal_grouping.specs.declared.forest.Branch.{Branch}
use Rattle.sal_grouping.specs.Groupings.{has_prefix, local_name}
use Rattle.sal_grouping.specs.Names.{reaches_home}
use Rattle.sal_schema.specs.declared.kind.Kind.{Kind}
use Rattle.sal_schema.specs.Kinds.{is_message, has_type}
use Rattle.sal_typedefs.specs.Scopes.{Site, within, site_at}
use Rattle.sal_typedefs.specs.Names.{leafrefs_of, count_up, path_names}
use Rattle.sal_typedefs.specs.Leafrefs.{leafref_seen, stmt_in}
use Rattle.sal_typedefs.specs.declared.leafrefs.Leafref.{Leafref}
use Rattle.sal_typedefs.specs.Types.{Judged, is_faulty, judgement}
use Rattle.sal_module_table.specs.Filled.{empty, type_of_node}
use Rattle.sal_module_table.specs.Nodes.{kind_of, name_of}
use Rattle.std.specs.BTreeMap.{get}
use Rattle.sal_module_table.specs.declared.child.Key.{Key}
use Rattle.sal_module_table.specs.declared.walk.Ways.{Ways}
use Rattle.std.specs.declared.alloc.Global.{Global}
use Rattle.std.specs.declared.vec.Vec.{Vec}
use Rattle.sal_module_table.specs.Inherited.{AreInherited, with_data_node, from_above, data_parent}
use Rattle.sal_module_table.specs.Children.{key, key_cmp, first_with, data_key}

-- ---- the type statement of a node

abbrev pub type_in : Site → Option Site
type_in site = option_map (within site) (find (is_named word.Type) (subs_of site.stmt))

abbrev pub type_of : List Stmt → Branch → Option Site
type_of stmts b = if has_type (kind_of stmts b) then option_and_then type_in (site_at stmts b.source b.at) else None

-- the leafrefs among a type and those that it depends on
abbrev pub stated_leafrefs : List Stmt → Option Site → List Site
stated_leafrefs stmts site = flat_map (leafrefs_of stmts) (option_to_list site)

abbrev pub leafrefs_at : List Stmt → Branch → List Site
leafrefs_at stmts b = stated_leafrefs stmts (type_of stmts b)

-- a leafref: the module of its type statement, and the statement
abbrev pub Reference : Type 0
Reference = ℕ × Stmt

abbrev pub references_at : List Stmt → Branch → List Reference
references_at stmts b = map stmt_in (leafrefs_at stmts b)

-- ---- places

-- The RPC's input or output, or the notification, that contains a node: for the paths in it, it is an operation at the top.
abbrev pub message_in : Kind → ℕ → Option ℕ → Option ℕ
message_in kind k over = if is_message kind then Some k else over

abbrev pub with_message : List Stmt → Branch → ℕ → Option ℕ → Option ℕ
with_message stmts b k over = message_in (kind_of stmts b) k over

abbrev pub message_of : List Stmt → List Branch → ℕ → Option ℕ
message_of stmts forest k = from_above (with_message stmts) None forest k

-- A step up leads to the data parent, and from a message to the top. No step leads up from the top.
abbrev pub above_branch : List Stmt → List Branch → Branch → Option ℕ
above_branch stmts forest b = if is_message (kind_of stmts b) then None else data_parent stmts forest b.parent

abbrev pub above_node : List Stmt → List Branch → Option Branch → Option ℕ
above_node stmts forest None = None
above_node stmts forest (Some b) = above_branch stmts forest b

abbrev pub step_up : List Stmt → List Branch → Option ℕ → Option (Option ℕ)
step_up stmts forest None = None
step_up stmts forest (Some n) = Some (above_node stmts forest (slice_get forest n))

unfoldable pub steps_up : ℕ → List Stmt → List Branch → Option ℕ → Option (Option ℕ)
steps_up zero stmts forest place = Some place
steps_up (suc n) stmts forest place = option_and_then (steps_up n stmts forest) (step_up stmts forest place)

-- the operation of a message: an RPC, or the notification itself
abbrev pub operation_of : List Branch → ℕ → Option Branch
operation_of forest n = option_and_then (λ (b : Branch). option_map_or (slice_get forest) b.parent (Some b)) (slice_get forest n)

abbrev pub is_operation : List Stmt → List Branch → ℕ → ℕ → List ℕ → Bool
is_operation stmts forest m n name = option_map_or (λ (b : Branch). b.module == m && same (name_of stmts b) name) (operation_of forest n) false

-- A name at the top may be that of the leaf's own operation, and then refers to its message. No other path leads into a message.
abbrev pub own_message : List Stmt → List Branch → Option ℕ → Option ℕ → ℕ → List ℕ → Option ℕ
own_message stmts forest own (Some place) m name = None
own_message stmts forest None None m name = None
own_message stmts forest (Some n) None m name = if is_operation stmts forest m n name then Some n else None

abbrev pub data_child : List Stmt → List Branch → Option ℕ → ℕ → List ℕ → Option ℕ
data_child stmts forest place m name = first_with (data_key stmts forest) forest (key false place m name)

abbrev pub or_else : Option ℕ → Option ℕ → Option ℕ
or_else None other = other
or_else (Some n) other = Some n

abbrev pub step_down : List Stmt → List Branch → Option ℕ → Option ℕ → ℕ → List ℕ → Option ℕ
step_down stmts forest own place m name = or_else (own_message stmts forest own place m name) (data_child stmts forest place m name)

-- Without a prefix a name is of the module of the node that has the type, with one of the module that the prefix names in its statement's module.
abbrev pub module_named : List Stmt → ℕ → ℕ → List ℕ → Option ℕ
module_named stmts owner source text = if has_prefix text then imported stmts source (take (colon_at text) text) else Some owner

abbrev pub named_below : List Stmt → List Branch → Option ℕ → ℕ → ℕ → Option ℕ → List ℕ → Option ℕ
named_below stmts forest own owner source place name =
    option_and_then (λ m. step_down stmts forest own place m (local_name name)) (module_named stmts owner source name)

abbrev pub steps_down : List Stmt → List Branch → Option ℕ → ℕ → ℕ → Option ℕ → List (List ℕ) → Option ℕ
steps_down stmts forest own owner source place [] = place
steps_down stmts forest own owner source place (name ∷ names) =
    option_and_then (λ n. steps_down stmts forest own owner source (Some n) names) (named_below stmts forest own owner source place name)

-- the indexes for paths
pub record AreWays (stmts : List Stmt) (forest : List Branch) (ways : Ways) : Type 0 where
  pub few : length forest ≤ 65536
  pub data_nodes : AreInherited (with_data_node stmts) None forest ways.data_nodes.items
  pub messages : AreInherited (with_message stmts) None forest ways.messages.items
  pub children : (q : Key) → get key_cmp ways.children q ≡ first_with (data_key stmts forest) forest q

-- ---- targets

-- where its names begin, for a leaf with this data parent
abbrev pub start_of : List Stmt → List Branch → Option ℕ → ℕ → Option (Option ℕ)
start_of stmts forest place up = if up == 0 then Some None else steps_up (up - 1) stmts forest place

abbrev pub has_type_at : List Stmt → List Branch → ℕ → Bool
has_type_at stmts forest n = option_map_or (λ b. has_type (kind_of stmts b)) (slice_get forest n) false

-- a node that is a leaf or a leaf-list
abbrev pub typed_node : List Stmt → List Branch → Option ℕ → Option ℕ
typed_node stmts forest None = None
typed_node stmts forest (Some n) = if has_type_at stmts forest n then Some n else None

-- the end of the path from the leaf k, which goes up `up` steps and down by these names
abbrev pub end_from : List Stmt → List Branch → Option ℕ → ℕ → ℕ → List (List ℕ) → Option (Option ℕ) → Option ℕ
end_from stmts forest own owner source names None = None
end_from stmts forest own owner source names (Some start) = typed_node stmts forest (steps_down stmts forest own owner source start names)

abbrev pub end_of : List Stmt → List Branch → ℕ → Branch → ℕ → ℕ → List (List ℕ) → Option ℕ
end_of stmts forest k b source up names =
    if length names == 0 then None
    else end_from stmts forest (message_of stmts forest k) b.module source names (start_of stmts forest (data_parent stmts forest b.parent) up)

-- and from the node of this number
abbrev pub end_at : List Stmt → List Branch → ℕ → ℕ → ℕ → List (List ℕ) → Option ℕ
end_at stmts forest k source up names = option_and_then (λ b. end_of stmts forest k b source up names) (slice_get forest k)

-- the leaf or leaf-list at which the path of a leafref ends
abbrev pub target_of : List Stmt → List Branch → ℕ → Branch → Reference → Option ℕ
target_of stmts forest k b one =
    end_of stmts forest k b one.0 (count_up (value_of word.Path one.1)) (path_names (value_of word.Path one.1))

abbrev pub targets_of : List Stmt → List Branch → ℕ → Branch → List ℕ
targets_of stmts forest k b = flat_map (λ one. option_to_list (target_of stmts forest k b one)) (references_at stmts b)

-- of each node, in order
abbrev pub edges_of : List Stmt → List Branch → List (List ℕ)
edges_of stmts forest = flat_map (λ (entry : ℕ × Branch). targets_of stmts forest entry.0 entry.1 ∷ []) (enumerate_from 0 forest)

-- ---- faults

-- A leafref whose path ends at no leaf has the fault at the path. One without a path has another fault, which another check finds.
abbrev pub target_faults : Option ℕ → Reference → List Found
target_faults None one = flat_map (at_stmt BadTarget one.0) (option_to_list (find (is_named word.Path) (subs_of one.1)))
target_faults (Some n) one = []

-- a leafref through which a node's type depends on itself
abbrev pub cycle_faults : List (List ℕ) → ℕ → Option ℕ → Reference → List Found
cycle_faults edges k target one = if reaches_home edges (length edges) (Some k) target then at_stmt NameCycle one.0 one.1 else []

abbrev pub faults_to : List (List ℕ) → ℕ → Option ℕ → Reference → List Found
faults_to edges k target one = target_faults target one ++ cycle_faults edges k target one

abbrev pub leafref_faults : List Stmt → List Branch → List (List ℕ) → ℕ → Branch → Reference → List Found
leafref_faults stmts forest edges k b one = faults_to edges k (target_of stmts forest k b one) one

abbrev pub node_faults : List Stmt → List Branch → List (List ℕ) → ℕ → Branch → List Found
node_faults stmts forest edges k b = flat_map (leafref_faults stmts forest edges k b) (references_at stmts b)

abbrev pub all_faults : List Stmt → List Branch → List Found
all_faults stmts forest = flat_map (λ (entry : ℕ × Branch). node_faults stmts forest (edges_of stmts forest) entry.0 entry.1) (enumerate_from 0 forest)

-- ---- the type of a node

-- A type with a fault has no meaning: such modules have no table.
abbrev pub sound_type : Judged → YangType
sound_type judged = if is_faulty judged then empty else judged.type

abbrev pub stated_type : List Stmt → Option Site → YangType
stated_type stmts None = empty
stated_type stmts (Some site) = sound_type (judgement stmts site)

-- the type of each node's type statement, with leafrefs as paths
abbrev pub own_types : List Stmt → List Branch → List YangType
own_types stmts forest = map (λ b. stated_type stmts (type_of stmts b)) forest

abbrev pub node_type : List Stmt → List Branch → ℕ → YangType
node_type stmts forest k = type_of_node (own_types stmts forest) (edges_of stmts forest) k

-- the types of the nodes that have one, in order
abbrev pub types_of : List Stmt → List Branch → List YangType
types_of stmts forest =
    flat_map (λ (entry : ℕ × Branch). if has_type (kind_of stmts entry.1) then node_type stmts forest entry.0 ∷ [] else []) (enumerate_from 0 forest)

-- ---- the code's form

abbrev pub seen : List Leafref → List Reference
seen all = map leafref_seen all

abbrev pub seen_all : List (Vec Leafref Global) → List (List Reference)
seen_all lists = map (λ (all : Vec Leafref Global). seen all.items) lists

-- ---- nodes without leafrefs

abbrev pub is_some_reference : List Reference → Bool
is_some_reference [] = false
is_some_reference (one ∷ more) = true

abbrev pub no_targets : Branch → List ℕ
no_targets b = []
