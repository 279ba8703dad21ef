use Rattle.std.proofs.Common.{◌≡◌, ◌+◌, ◌++◌, ◌∷◌, [], false, drop, string_bytes, ap, sym, ◌∙◌, rules}
use Rattle.serde_json.specs.View.{items_of}
use Rattle.serde_json.specs.Written.{items_text}
use Rattle.sal_node.specs.Tree.{pairs}
use Rattle.sal_node.specs.Shape.{seen}
use Rattle.sal_tree_text.specs.Trees.{Children, items_values}
use Rattle.sal_tree_text.proofs.TreeTexts.{in_brackets, seen-drop, seen-past}
use Rattle.sal_tree_text.proofs.trees.TreeWriter.push_items.Goals as goal

pub loop-child-preserved : goal.loop-child-preserved
loop-child-preserved c =
    let table = c.args.self.now.schema.now in
    let n = c.args.node in
    let cs = c.deref-child-items.result.now in
    let i = c.loop-child.child-index in
    c.in_ok-is_later.ensures (items_values table n (drop (i + 1) (seen cs)))
    ∙ ap (λ (es : Children). string_bytes c.loop-child.text ++ items_text c.loop-child.is_later (items_of (items_values table n es))) (sym (seen-drop cs i c.child-item.result c.loop-child-test.true c.child-item.is))
    ∙ c.loop-child.invariant

pub returns : goal.returns
returns c =
    let table = c.args.self.now.schema.now in
    let n = c.args.node in
    let cs = c.deref-child-items.result.now in
    let opened : string_bytes c.push.new.self ≡ string_bytes c.args.text.now ++ 91 ∷ [] = search rules in
    let closed : string_bytes c.push-2.new.self ≡ string_bytes c.loop-child.text ++ 93 ∷ [] = search rules in
    let same = ap seen c.deref-child-items.ensures.value ∙ c.in_ok-children.ensures in
    in_brackets (string_bytes c.args.text.now) (items_text false (items_of (items_values table n (pairs c.args.tree.now.kids)))) (string_bytes c.push.new.self) (string_bytes c.push-2.new.self) 91 opened
    (closed
    ∙ ap (λ (es : Children). string_bytes c.loop-child.text ++ items_text c.loop-child.is_later (items_of (items_values table n es))) (sym (seen-past cs c.loop-child.child-index c.loop-child-test.false))
    ∙ c.loop-child.invariant
    ∙ ap (λ (es : Children). string_bytes c.push.new.self ++ items_text false (items_of (items_values table n es))) same)
