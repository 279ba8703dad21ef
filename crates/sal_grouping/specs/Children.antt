-- Nodes whose name is not unique in its scope (RFC 7950 section 6.2.1).
use Rattle.std.specs.Prelude.{ℕ, zero, suc, Bool, not, ◌&&◌, ◌||◌, List, [], length, Option, Some, None, is_some, unwrap_or, if◌then◌else◌}
use Rattle.std.specs.List.{slice_get, flat_map, enumerate_from, position_from}
use Rattle.sal_module.specs.declared.keyword.Keyword.TheVariants.{Choice, Case}
use Rattle.sal_module.specs.declared.fault.Cause.TheVariants.{DoubleNode}
use Rattle.sal_module.specs.declared.fault.Found.{Found}
use Rattle.sal_grouping.specs.declared.rows.Row.{Row}
use Rattle.sal_grouping.specs.declared.node.Node.{Node}
use Rattle.sal_grouping.specs.declared.children.Key.{Key}
use Rattle.sal_grouping.specs.contracts.children.KeyOrd.TheImpl as key_ord
use Rattle.std.specs.declared.cmp.Ordering.{Ordering}
use Rattle.std.specs.Ordering.{eq_by_cmp}
use Rattle.sal_grouping.specs.Rows.{is_block, is_keyword}
use Rattle.sal_grouping.specs.Names.{at_row}
use Rattle.sal_grouping.specs.Augments.{kind_of, name_of}

abbrev pub is_choice : List Row → Node → Bool
is_choice rows node = is_keyword Choice (kind_of rows node)

abbrev pub is_case : List Row → Node → Bool
is_case rows node = is_keyword Case (kind_of rows node)

-- the parent of a choice or a case
abbrev pub above : List Row → Option Node → Option (Option ℕ)
above rows None = None
above rows (Some node) = if is_choice rows node || is_case rows node then Some node.parent else None

abbrev pub passed : List Row → List Node → Option ℕ → Option (Option ℕ)
passed rows forest None = None
passed rows forest (Some k) = above rows (slice_get forest k)

-- The closest node that is neither choice nor case, in at most n steps from this one upwards.
unfoldable pub data_parent : ℕ → List Row → List Node → Option ℕ → Option ℕ
data_parent zero rows forest place = place
data_parent (suc n) rows forest place =
    if is_some (passed rows forest place) then data_parent n rows forest (unwrap_or (passed rows forest place) None) else place

-- the scope of a node's name: a case's is its choice, another node's is its data parent
abbrev pub scope_of : List Row → List Node → Node → Option ℕ
scope_of rows forest node = if is_case rows node then node.parent else data_parent (length forest) rows forest node.parent

-- what must differ between two nodes: whether it is a case, its scope, its module and its name
abbrev pub key_of : List Row → List Node → Node → Key
key_of rows forest node = record { case = is_case rows node; scope = scope_of rows forest node; «module» = node.module; name = name_of rows node }

abbrev pub key_cmp : Key → Key → Ordering
key_cmp = (key_ord.ghosts).cmp

abbrev pub same_key : Key → Key → Bool
same_key = eq_by_cmp key_cmp

-- The name of a choice is not one of a data node.
abbrev pub has_key : List Row → List Node → Key → Node → Bool
has_key rows forest key node = not (is_choice rows node) && same_key key (key_of rows forest node)

-- the first of these nodes that has this key
abbrev pub first_with : List Row → List Node → Key → List Node → Option ℕ
first_with rows forest key some = position_from (has_key rows forest key) 0 some

abbrev pub fault_at : Option Row → List Found
fault_at None = []
fault_at (Some row) = at_row DoubleNode row

-- a choice, or the first node with its key
abbrev pub is_first : List Row → List Node → ℕ → Node → Bool
is_first rows forest k node = is_choice rows node || is_block k (first_with rows forest (key_of rows forest node) forest)

abbrev pub node_faults : List Row → List Node → ℕ → Node → List Found
node_faults rows forest k node = if is_first rows forest k node then [] else fault_at (slice_get rows node.row)

abbrev pub child_faults : List Row → List Node → List Found
child_faults rows forest = flat_map (λ (entry : ℕ × Node). node_faults rows forest entry.0 entry.1) (enumerate_from 0 forest)
