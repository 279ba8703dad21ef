-- The value of a node by its kind.
use Rattle.std.proofs.Common.{◌≡◌, ℕ, zero, suc, ◌-◌, ◌<◌, Bool, true, false, Some, refl, ap, ◌∙◌, arith}
use Rattle.std.specs.Prelude.{if◌then◌else◌}
use Rattle.serde_json.specs.Data.{Data, null, array}
use Rattle.serde_json.specs.View.{items_of}
use Rattle.sal_schema.specs.declared.table.SchemaTable.{SchemaTable}
use Rattle.sal_schema.specs.Kinds.{is_leaf, is_leaf_list, is_list}
use Rattle.sal_schema.specs.Table.{is_kind}
use Rattle.sal_node.specs.Tree.{Tree, pairs}
use Rattle.sal_tree_text.specs.Trees.{first_cell, leaf_value, items_values, entries_values, members_value, node_value}

-- the value of a node by three tests of its kind
abbrev by_tests : Bool → Bool → Bool → SchemaTable → ℕ → ℕ → Tree → Data
by_tests leaf leafs list table levels n t =
    if leaf then leaf_value table n (first_cell t.cell t.kids)
    else if leafs then array (items_of (items_values table n (pairs t.kids)))
    else if list then array (items_of (entries_values table n (node_value table levels) (pairs t.kids)))
    else members_value table (Some n) (node_value table levels) t

node_value_is : (table : SchemaTable) (levels n : ℕ) (t : Tree) → 0 < levels → node_value table levels n t ≡ by_tests (is_kind is_leaf table n) (is_kind is_leaf_list table n) (is_kind is_list table n) table (levels - 1) n t
unfolding node_value
node_value_is table zero n t l = absurd (omega arith)
node_value_is table (suc levels) n t l =
    let one : levels ≡ suc levels - 1 = omega arith in
    ap (λ m. by_tests (is_kind is_leaf table n) (is_kind is_leaf_list table n) (is_kind is_list table n) table m n t) one

pub value_of_none : (table : SchemaTable) (levels n : ℕ) (t : Tree) → levels ≡ 0 → node_value table levels n t ≡ null
unfolding node_value
value_of_none table levels n t none = ap (λ m. node_value table m n t) none

pub value_of_leaf : (table : SchemaTable) (levels n : ℕ) (t : Tree) → 0 < levels → is_kind is_leaf table n ≡ true → node_value table levels n t ≡ leaf_value table n (first_cell t.cell t.kids)
value_of_leaf table levels n t l e = node_value_is table levels n t l ∙ ap (λ b. by_tests b (is_kind is_leaf_list table n) (is_kind is_list table n) table (levels - 1) n t) e

pub value_of_leafs : (table : SchemaTable) (levels n : ℕ) (t : Tree) → 0 < levels → is_kind is_leaf table n ≡ false → is_kind is_leaf_list table n ≡ true → node_value table levels n t ≡ array (items_of (items_values table n (pairs t.kids)))
value_of_leafs table levels n t l e f = node_value_is table levels n t l ∙ (λ i. by_tests (e i) (f i) (is_kind is_list table n) table (levels - 1) n t)

pub value_of_list : (table : SchemaTable) (levels n : ℕ) (t : Tree) → 0 < levels → is_kind is_leaf table n ≡ false → is_kind is_leaf_list table n ≡ false → is_kind is_list table n ≡ true → node_value table levels n t ≡ array (items_of (entries_values table n (node_value table (levels - 1)) (pairs t.kids)))
value_of_list table levels n t l e f g = node_value_is table levels n t l ∙ (λ i. by_tests (e i) (f i) (g i) table (levels - 1) n t)

pub value_of_other : (table : SchemaTable) (levels n : ℕ) (t : Tree) → 0 < levels → is_kind is_leaf table n ≡ false → is_kind is_leaf_list table n ≡ false → is_kind is_list table n ≡ false → node_value table levels n t ≡ members_value table (Some n) (node_value table (levels - 1)) t
value_of_other table levels n t l e f g = node_value_is table levels n t l ∙ (λ i. by_tests (e i) (f i) (g i) table (levels - 1) n t)
