-- Keys and unique leafs of lists, and configuration under state data (RFC 7950 sections 7.8.2, 7.8.3 and 7.21.1).
use Rattle.std.specs.Prelude.{◌≡◌, ◌≤◌, ℕ, Bool, true, false, not, ◌&&◌, ◌||◌, ◌==◌, nat_eq, List, [], ◌∷◌, ◌++◌, map, filter, length, Option, Some, None, is_none, option_and_then, if◌then◌else◌}
use mathlib.Core.Bool.{beq}
use Rattle.std.specs.List.{flat_map, list_any, slice_split, slice_get, enumerate_from}
use Rattle.std.specs.Option.{option_map_or, option_to_list, option_eq}
use Rattle.sal_stmt.specs.declared.stmt.Stmt.{Stmt}
use Rattle.sal_stmt.specs.Words.{is_blank, is_empty}
use Rattle.sal_module.specs.declared.keyword.Keyword.TheVariants as word
use Rattle.sal_module.specs.declared.fault.Cause.TheVariants.{BadKey, ConfigUnderState}
use Rattle.sal_module.specs.declared.fault.Found.{Found}
use Rattle.sal_module.specs.Statements.{is_named, subs_of, argument_of}
use Rattle.sal_module.specs.Profile as profile
use Rattle.sal_module.specs.declared.fault.Cause.{Cause}
use Rattle.sal_grouping.specs.declared.forest.Branch.{Branch}
use Rattle.sal_schema.specs.declared.kind.Kind.{Kind}
use Rattle.sal_schema.specs.Kinds.{is_list}
use Rattle.sal_schema.specs.Valid as valid
use Rattle.sal_module_table.specs.Nodes as nodes
use Rattle.sal_module_table.specs.Nodes.{kind_of, is_true}
use Rattle.std.specs.BTreeMap.{get}
use Rattle.sal_module_table.specs.declared.child.Key.{Key}
use Rattle.sal_module_table.specs.declared.tables.Tables.{Tables}
use Rattle.sal_module_table.specs.Children.{key_cmp, child_key, first_with, child_named}
use Rattle.sal_module_table.specs.Inherited.{AreInherited, with_config, with_data_node, config_of, config_above}

abbrev pub own_stmt : List Stmt → Branch → Option Stmt
own_stmt = nodes.own_stmt

-- ---- texts of names

-- the parts of a text between white space
abbrev pub words_of : List ℕ → List (List ℕ)
words_of text = filter (λ word. not (is_empty word)) (slice_split is_blank text)

-- the steps of a name, with a `/` between them
abbrev pub steps_of : List ℕ → List (List ℕ)
steps_of word = slice_split (λ c. c == 47) word

abbrev pub is_list_kind : Kind → Bool
is_list_kind = is_list

abbrev pub is_list_at : List Stmt → List Branch → ℕ → Bool
is_list_at stmts forest k = option_map_or (λ b. is_list (kind_of stmts b)) (slice_get forest k) false

-- a node that is not a list
abbrev pub unless_list : List Stmt → List Branch → Option ℕ → Option ℕ
unless_list stmts forest None = None
unless_list stmts forest (Some n) = if is_list_at stmts forest n then None else Some n

-- ---- keys of the list b, whose number is k

-- a key is a leaf directly in its list
abbrev pub key_leaf : List Stmt → List Branch → ℕ → Branch → List ℕ → Option ℕ
key_leaf stmts forest k b name = child_named stmts forest b true k name

abbrev pub keys_named : List Stmt → List Branch → ℕ → Branch → List ℕ → List (Option ℕ)
keys_named stmts forest k b text = map (key_leaf stmts forest k b) (words_of text)

-- the numbers that exist
abbrev pub given : List (Option ℕ) → List ℕ
given named = flat_map option_to_list named

-- no names, or one that no leaf has
abbrev pub has_none : List (Option ℕ) → Bool
has_none named = list_any is_none named

abbrev pub is_missing : List (Option ℕ) → Bool
is_missing named = length named == 0 || has_none named

abbrev pub same_config : Option Bool → Option Bool → Bool
same_config = option_eq beq

abbrev pub differs : List Stmt → List Branch → ℕ → ℕ → Bool
differs stmts forest k leaf = not (same_config (config_of stmts forest leaf) (config_of stmts forest k))

abbrev pub all_differ : {X : Type 0} → (X → X → Bool) → List X → Bool
all_differ = valid.all_differ

abbrev pub at_stmt : Cause → ℕ → Stmt → List Found
at_stmt = profile.at_stmt

-- no names, a name that no leaf has, a repeated leaf, and one that differs from its list in `config`
abbrev pub are_bad_keys : List Stmt → List Branch → ℕ → List (Option ℕ) → Bool
are_bad_keys stmts forest k named = (is_missing named || not (all_differ nat_eq (given named))) || list_any (differs stmts forest k) (given named)

abbrev pub is_bad_key : List Stmt → List Branch → ℕ → Branch → List ℕ → Bool
is_bad_key stmts forest k b text = are_bad_keys stmts forest k (keys_named stmts forest k b text)

-- ---- its unique leafs

-- the leaf below a node at the end of these steps, through nodes that are not lists
abbrev pub leaf_below : List Stmt → List Branch → Branch → ℕ → List (List ℕ) → Option ℕ
leaf_below stmts forest b above [] = None
leaf_below stmts forest b above (step ∷ []) = child_named stmts forest b true above step
leaf_below stmts forest b above (step ∷ next ∷ steps) =
    option_and_then (λ n. leaf_below stmts forest b n (next ∷ steps)) (unless_list stmts forest (child_named stmts forest b false above step))

abbrev pub unique_leaf : List Stmt → List Branch → ℕ → Branch → List ℕ → Option ℕ
unique_leaf stmts forest k b name = leaf_below stmts forest b k (steps_of name)

abbrev pub uniques_named : List Stmt → List Branch → ℕ → Branch → List ℕ → List (Option ℕ)
uniques_named stmts forest k b text = map (unique_leaf stmts forest k b) (words_of text)

abbrev pub is_bad_unique : List Stmt → List Branch → ℕ → Branch → List ℕ → Bool
is_bad_unique stmts forest k b text = is_missing (uniques_named stmts forest k b text)

-- ---- a list

-- the statements in the block of a node
abbrev pub block_of : Option Stmt → List Stmt
block_of None = []
block_of (Some stmt) = subs_of stmt

-- the keys that a statement names
abbrev pub keys_in : List Stmt → List Branch → ℕ → Branch → Stmt → List ℕ
keys_in stmts forest k b sub = if is_named word.Key sub then given (keys_named stmts forest k b (argument_of sub)) else []

abbrev pub keys_of : List Stmt → List Branch → ℕ → Branch → List ℕ
keys_of stmts forest k b = if is_list (kind_of stmts b) then flat_map (keys_in stmts forest k b) (block_of (own_stmt stmts b)) else []

-- and the unique leafs
abbrev pub uniques_in : List Stmt → List Branch → ℕ → Branch → Stmt → List (List ℕ)
uniques_in stmts forest k b sub = if is_named word.Unique sub then given (uniques_named stmts forest k b (argument_of sub)) ∷ [] else []

abbrev pub uniques_of : List Stmt → List Branch → ℕ → Branch → List (List ℕ)
uniques_of stmts forest k b = if is_list (kind_of stmts b) then flat_map (uniques_in stmts forest k b) (block_of (own_stmt stmts b)) else []

-- ---- faults

-- of a statement in the block of a list
abbrev pub sub_faults : List Stmt → List Branch → ℕ → Branch → Stmt → List Found
sub_faults stmts forest k b sub =
    if is_named word.Key sub then (if is_bad_key stmts forest k b (argument_of sub) then at_stmt BadKey b.source sub else [])
    else if is_named word.Unique sub then (if is_bad_unique stmts forest k b (argument_of sub) then at_stmt BadKey b.source sub else [])
    else []

-- of a list
abbrev pub list_faults : List Stmt → List Branch → ℕ → Branch → List Stmt → List Found
list_faults stmts forest k b subs = if is_list (kind_of stmts b) then flat_map (sub_faults stmts forest k b) subs else []

abbrev pub is_under_state : List Stmt → List Branch → Branch → Bool
is_under_state stmts forest b = same_config (config_above stmts forest b.parent) (Some false)

-- `config true` below state data
abbrev pub config_fault : List Stmt → List Branch → Branch → Stmt → List Found
config_fault stmts forest b sub =
    if (is_named word.Config sub && is_true (argument_of sub)) && is_under_state stmts forest b then at_stmt ConfigUnderState b.source sub else []

abbrev pub config_faults : List Stmt → List Branch → Branch → List Stmt → List Found
config_faults stmts forest b subs = flat_map (config_fault stmts forest b) subs

abbrev pub node_faults : List Stmt → List Branch → ℕ → Branch → List Found
node_faults stmts forest k b = list_faults stmts forest k b (block_of (own_stmt stmts b)) ++ config_faults stmts forest b (block_of (own_stmt stmts b))

abbrev pub all_faults : List Stmt → List Branch → List Found
all_faults stmts forest = flat_map (λ (entry : ℕ × Branch). node_faults stmts forest entry.0 entry.1) (enumerate_from 0 forest)

-- ---- indexes of a forest

-- the children and the config of each node
pub record AreTables (stmts : List Stmt) (forest : List Branch) (tables : Tables) : Type 0 where
  pub few : length forest ≤ 65536
  pub configs : AreInherited (with_config stmts) (Some true) forest tables.configs.items
  pub data_nodes : AreInherited (with_data_node stmts) None forest tables.data_nodes.items
  pub children : (q : Key) → get key_cmp tables.children q ≡ first_with (child_key stmts) forest q
