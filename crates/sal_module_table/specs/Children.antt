-- Children of nodes by name (RFC 7950 sections 6.2.1 and 6.5).
use Rattle.std.specs.Prelude.{ℕ, Bool, false, List, take, Option, Some, None, option_and_then, if◌then◌else◌}
use Rattle.std.specs.List.{position_from}
use Rattle.std.specs.Ordering.{eq_by_cmp}
use Rattle.std.specs.declared.cmp.Ordering.{Ordering}
use Rattle.sal_stmt.specs.Words.{colon_at}
use Rattle.sal_stmt.specs.declared.stmt.Stmt.{Stmt}
use Rattle.sal_module.specs.Modules.{imported}
use Rattle.sal_grouping.specs.declared.forest.Branch.{Branch}
use Rattle.sal_grouping.specs.Groupings as names
use Rattle.sal_grouping.specs.Groupings.{has_prefix}
use Rattle.sal_grouping.specs.Indexes as indexes
use Rattle.sal_schema.specs.declared.kind.Kind.{Kind}
use Rattle.sal_schema.specs.Kinds.{is_leaf, is_data}
use Rattle.sal_module_table.specs.declared.child.Key.{Key}
use Rattle.sal_module_table.specs.contracts.child.KeyOrd.TheImpl as key_ord
use Rattle.sal_module_table.specs.Nodes.{kind_of, name_of}
use Rattle.sal_module_table.specs.Inherited.{data_parent}

abbrev pub key_cmp : Key → Key → Ordering
key_cmp = (key_ord.ghosts).cmp

abbrev pub same_key : Key → Key → Bool
same_key = eq_by_cmp key_cmp

abbrev pub key : Bool → Option ℕ → ℕ → List ℕ → Key
key leaf above m name = record { leaf = leaf; above = above; «module» = m; name = name }

abbrev pub is_found_by : Key → Option Key → Bool
is_found_by wanted None = false
is_found_by wanted (Some own) = same_key wanted own

-- the number found earlier, or this one if it is a hit
abbrev pub with_first : Option ℕ → Bool → ℕ → Option ℕ
with_first = indexes.with_first

-- the first node with this key, if each has one or none
abbrev pub first_with : (Branch → Option Key) → List Branch → Key → Option ℕ
first_with key_of forest wanted = position_from (λ b. is_found_by wanted (key_of b)) 0 forest

-- ---- children

abbrev pub is_leaf_kind : Kind → Bool
is_leaf_kind = is_leaf

abbrev pub local_name : List ℕ → List ℕ
local_name = names.local_name

-- The key below its parent. Leafs have keys that differ from those of other nodes, since a choice may have the name of a leaf beside it.
abbrev pub child_key : List Stmt → Branch → Option Key
child_key stmts b = Some (key (is_leaf (kind_of stmts b)) b.parent b.module (name_of stmts b))

-- A data node also has a key below its data parent.
abbrev pub data_key : List Stmt → List Branch → Branch → Option Key
data_key stmts forest b = if is_data (kind_of stmts b) then Some (key false (data_parent stmts forest b.parent) b.module (name_of stmts b)) else None

-- ---- names in the statement of a node

-- The module of a name: without a prefix that of the node, which for the nodes of a `uses` may differ from its statement's.
abbrev pub module_named : List Stmt → Branch → List ℕ → Option ℕ
module_named stmts b text = if has_prefix text then imported stmts b.source (take (colon_at text) text) else Some b.module

-- the child of that name, a leaf or another node
abbrev pub child_named : List Stmt → List Branch → Branch → Bool → ℕ → List ℕ → Option ℕ
child_named stmts forest b leaf above text =
    option_and_then (λ m. first_with (child_key stmts) forest (key leaf (Some above) m (local_name text))) (module_named stmts b text)
