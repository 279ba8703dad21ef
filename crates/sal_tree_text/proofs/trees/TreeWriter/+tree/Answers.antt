use Rattle.std.proofs.Common.{◌≡◌, ◌+◌, ◌-◌, ◌++◌, ◌∷◌, [], true, false, drop, string_bytes, ap, sym, subst, ◌∙◌, arith, rules, OnOk}
use Rattle.serde_json.specs.Data.{Data}
use Rattle.serde_json.specs.View.{items_of}
use Rattle.serde_json.specs.Written.{compact_text, items_text, members_text}
use Rattle.sal_schema.specs.Kinds.{is_leaf, is_leaf_list, is_list}
use Rattle.sal_schema.specs.Table.{is_kind}
use Rattle.sal_node.specs.Tree.{pairs}
use Rattle.sal_node.specs.Shape.{seen}
use Rattle.sal_tree_text.specs.Trees.{Children, leaf_value, members_in, entries_values, node_value}
use Rattle.sal_tree_text.proofs.TreeTexts.{in_brackets, seen-drop, seen-past}
use Rattle.sal_tree_text.proofs.Values.{value_of_none, value_of_leaf, value_of_leafs, value_of_list, value_of_other}
use Rattle.sal_tree_text.proofs.trees.TreeWriter.+tree.Goals as goal

pub push_all-loop-child-preserved : goal.push_all-loop-child-preserved
push_all-loop-child-preserved t c =
    let table = c.args.self.now.schema.now in
    let f = node_value table c.args.levels in
    let cs = c.args.children.now in
    let i = c.loop-child.child-index in
    c.in_ok-is_later.ensures (members_in table c.args.parent f (drop (i + 1) (seen cs)))
    ∙ ap (λ (es : Children). string_bytes c.loop-child.text ++ members_text c.loop-child.is_later (members_in table c.args.parent f es)) (sym (seen-drop cs i c.child-item.result c.loop-child-test.true c.child-item.is))
    ∙ c.loop-child.invariant

pub push_all-returns : goal.push_all-returns
push_all-returns t c =
    let table = c.args.self.now.schema.now in
    let f = node_value table c.args.levels in
    ap (λ (es : Children). string_bytes c.loop-child.text ++ members_text c.loop-child.is_later (members_in table c.args.parent f es)) (sym (seen-past c.args.children.now c.loop-child.child-index c.loop-child-test.false))
    ∙ c.loop-child.invariant

pub push_entries-loop-child-preserved : goal.push_entries-loop-child-preserved
push_entries-loop-child-preserved t c =
    let table = c.args.self.now.schema.now in
    let f = node_value table c.args.levels in
    let n = c.args.node in
    let cs = c.deref-child-items.result.now in
    let i = c.loop-child.child-index in
    c.in_ok-is_later.ensures (entries_values table n f (drop (i + 1) (seen cs)))
    ∙ ap (λ (es : Children). string_bytes c.loop-child.text ++ items_text c.loop-child.is_later (items_of (entries_values table n f es))) (sym (seen-drop cs i c.child-item.result c.loop-child-test.true c.child-item.is))
    ∙ c.loop-child.invariant

pub push_entries-returns : goal.push_entries-returns
push_entries-returns t c =
    let table = c.args.self.now.schema.now in
    let f = node_value table c.args.levels in
    let n = c.args.node in
    let cs = c.deref-child-items.result.now in
    let opened : string_bytes c.push.new.self ≡ string_bytes c.args.text.now ++ 91 ∷ [] = search rules in
    let closed : string_bytes c.push-2.new.self ≡ string_bytes c.loop-child.text ++ 93 ∷ [] = search rules in
    let same = ap seen c.deref-child-items.ensures.value ∙ c.in_ok-children.ensures in
    in_brackets (string_bytes c.args.text.now) (items_text false (items_of (entries_values table n f (pairs c.args.tree.now.kids)))) (string_bytes c.push.new.self) (string_bytes c.push-2.new.self) 91 opened
    (closed
    ∙ ap (λ (es : Children). string_bytes c.loop-child.text ++ items_text c.loop-child.is_later (items_of (entries_values table n f es))) (sym (seen-past cs c.loop-child.child-index c.loop-child-test.false))
    ∙ c.loop-child.invariant
    ∙ ap (λ (es : Children). string_bytes c.push.new.self ++ items_text false (items_of (entries_values table n f es))) same)

pub push_node-returns-then-levels-eq0 : goal.push_node-returns-then-levels-eq0
push_node-returns-then-levels-eq0 t c =
    let none : c.args.levels ≡ 0 = omega arith in
    let P : Data → Type 0 = λ d. OnOk c.push_null.result (string_bytes c.push_null.new.text ≡ string_bytes c.args.text.now ++ compact_text d) in
    subst P (sym (value_of_none c.args.self.now.schema.now c.args.levels c.args.node c.args.tree.now none)) c.push_null.ensures

pub push_node-returns-in_ok-cell : goal.push_node-returns-in_ok-cell
push_node-returns-in_ok-cell t c =
    let table = c.args.self.now.schema.now in
    let n = c.args.node in
    let leaf : is_kind is_leaf table n ≡ true = cc in
    let P : Data → Type 0 = λ d. OnOk c.push_leaf.result (string_bytes c.push_leaf.new.text ≡ string_bytes c.args.text.now ++ compact_text d) in
    subst P (ap (leaf_value table n) c.in_ok-cell.ensures ∙ sym (value_of_leaf table c.args.levels n c.args.tree.now (omega arith) leaf)) c.push_leaf.ensures

pub push_node-returns-then-is_leaf_list : goal.push_node-returns-then-is_leaf_list
push_node-returns-then-is_leaf_list t c =
    let table = c.args.self.now.schema.now in
    let n = c.args.node in
    let leaf : is_kind is_leaf table n ≡ false = cc in
    let leafs : is_kind is_leaf_list table n ≡ true = cc in
    let P : Data → Type 0 = λ d. OnOk c.push_items.result (string_bytes c.push_items.new.text ≡ string_bytes c.args.text.now ++ compact_text d) in
    subst P (sym (value_of_leafs table c.args.levels n c.args.tree.now (omega arith) leaf leafs)) c.push_items.ensures

pub push_node-returns-then-is_list : goal.push_node-returns-then-is_list
push_node-returns-then-is_list t c =
    let table = c.args.self.now.schema.now in
    let n = c.args.node in
    let leaf : is_kind is_leaf table n ≡ false = cc in
    let leafs : is_kind is_leaf_list table n ≡ false = cc in
    let list : is_kind is_list table n ≡ true = cc in
    let P : Data → Type 0 = λ d. OnOk c.push_entries.result (string_bytes c.push_entries.new.text ≡ string_bytes c.args.text.now ++ compact_text d) in
    subst P (sym (value_of_list table c.args.levels n c.args.tree.now (omega arith) leaf leafs list)) c.push_entries.ensures

pub push_node-returns-else-is_list : goal.push_node-returns-else-is_list
push_node-returns-else-is_list t c =
    let table = c.args.self.now.schema.now in
    let n = c.args.node in
    let leaf : is_kind is_leaf table n ≡ false = cc in
    let leafs : is_kind is_leaf_list table n ≡ false = cc in
    let list : is_kind is_list table n ≡ false = cc in
    let P : Data → Type 0 = λ d. OnOk c.push_members.result (string_bytes c.push_members.new.text ≡ string_bytes c.args.text.now ++ compact_text d) in
    subst P (sym (value_of_other table c.args.levels n c.args.tree.now (omega arith) leaf leafs list)) c.push_members.ensures
