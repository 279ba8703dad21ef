-- The JSON value of a tree by its nodes. proofs/TreeRows proves that it is what `sal_data` writes for the tree's rows.
use Rattle.std.specs.Prelude.{ℕ, zero, suc, List, [], ◌∷◌, ◌++◌, Option, Some, None, Bool, true, false, ◌&&◌, fold, if◌then◌else◌}
use Rattle.std.specs.Option.{option_map_or}
use Rattle.std.specs.Ordering.{nat_cmp, is_lt}
use Rattle.std.specs.Cmp.Lexicographic.{slice_cmp}
use Rattle.serde_json.specs.Data.{Data, null, array, object, Members, no_members, member, put}
use Rattle.serde_json.specs.View.{items_of}
use Rattle.sal_types.specs.declared.value.Cell.{Cell}
use Rattle.sal_types.specs.declared.value.Step.{Step}
use Rattle.sal_types.specs.declared.value.Step.TheVariants.{Node, Key, Item}
use Rattle.sal_schema.specs.declared.table.SchemaTable.{SchemaTable}
use Rattle.sal_schema.specs.Kinds.{is_leaf, is_leaf_list, is_list}
use Rattle.sal_schema.specs.Table.{is_kind, is_same, module_of, name_of}
use Rattle.sal_data.specs.Members.{member_name}
use Rattle.sal_data.specs.Written.{cell_json, item_json}
use Rattle.sal_node.specs.Tree.{Tree, Forest, bare, grown, pairs}

-- the cell of the first row at a node or below it
abbrev pub first_cell : Option Cell → Forest → Option Cell
first_cell (Some c) kids = Some c
first_cell None bare = None
first_cell None (grown x s c kids rest) = first_cell c kids

-- the value of a node from its tree
abbrev pub Teller : Type 0
Teller = ℕ → Tree → Data

abbrev pub Children : Type 0
Children = List (Step × Tree)

module _ (table : SchemaTable) where
  -- the value of a leaf, from its cell
  abbrev pub leaf_value : ℕ → Option Cell → Data
  leaf_value n cell = option_map_or (cell_json table n) cell null

  -- the members with that of a child, in byte order of their names
  abbrev pub with_child : Option ℕ → Teller → Members → Step → Tree → Members
  with_child parent f ms (Node n) tree = put (member_name table parent n) (f n tree) ms
  with_child parent f ms step tree = ms

  -- an object with a member for each child that denotes a node
  abbrev pub members_value : Option ℕ → Teller → Tree → Data
  members_value parent f tree = object (fold (λ ms (e : Step × Tree). with_child parent f ms e.0 e.1) no_members (pairs tree.kids))

  -- the values of the entries of a leaf-list
  abbrev pub items_values : ℕ → Children → List Data
  items_values n [] = []
  items_values n (e ∷ es) = item_json table n (Some e.0) ++ items_values n es

  -- the value of an entry of a list
  abbrev pub entry_value : ℕ → Teller → Step → Tree → List Data
  entry_value n f (Key values) tree = members_value (Some n) f tree ∷ []
  entry_value n f step tree = []

  -- the values of the entries of a list
  abbrev pub entries_values : ℕ → Teller → Children → List Data
  entries_values n f [] = []
  entries_values n f (e ∷ es) = entry_value n f e.0 e.1 ++ entries_values n f es

  -- the value of a node with at most this many levels of nodes
  unfoldable pub node_value : ℕ → Teller
  node_value zero n tree = null
  node_value (suc levels) n tree =
      if is_kind is_leaf table n then leaf_value n (first_cell tree.cell tree.kids)
      else if is_kind is_leaf_list table n then array (items_of (items_values n (pairs tree.kids)))
      else if is_kind is_list table n then array (items_of (entries_values n (node_value levels) (pairs tree.kids)))
      else members_value (Some n) (node_value levels) tree

  -- ---- members in their order

  -- the member of a child before others
  abbrev pub then_child : Option ℕ → Teller → Step → Tree → Members → Members
  then_child parent f (Node n) tree ms = member (member_name table parent n) (f n tree) ms
  then_child parent f step tree ms = ms

  -- the members of children, in their order
  abbrev pub members_in : Option ℕ → Teller → Children → Members
  members_in parent f [] = no_members
  members_in parent f (e ∷ es) = then_child parent f e.0 e.1 (members_in parent f es)

  -- the same in byte order of their names, each name once
  abbrev pub members_by_name : Option ℕ → Teller → Children → Members
  members_by_name parent f es = fold (λ ms (e : Step × Tree). with_child parent f ms e.0 e.1) no_members es

  -- whether two steps lead to nodes of one module, the first with the lesser name
  abbrev pub is_before : Step → Step → Bool
  is_before (Node a) (Node b) = is_same (module_of table a) (module_of table b) && is_lt (slice_cmp nat_cmp (name_of table a) (name_of table b))
  is_before step other = false

  -- whether each child is before the next one in this order
  abbrev pub do_names_rise : Children → Bool
  do_names_rise [] = true
  do_names_rise (e ∷ []) = true
  do_names_rise (e ∷ d ∷ es) = is_before e.0 d.0 && do_names_rise (d ∷ es)
