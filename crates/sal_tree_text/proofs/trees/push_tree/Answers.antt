use Rattle.std.proofs.Common.{◌≡◌, ◌++◌, ◌∷◌, [], None, List, ℕ, append_assoc, string_bytes, ap, sym, ◌∙◌, rules}
use Rattle.serde_json.specs.Data.{Data}
use Rattle.serde_json.specs.Written.{compact_text}
use Rattle.sal_data.specs.Written.{write_data}
use Rattle.sal_node.specs.Tree.{Tree}
use Rattle.sal_tree.specs.Rows.{rows_of}
use Rattle.sal_tree.specs.Whole.{IsWhole}
use Rattle.sal_tree_text.specs.Trees.{members_value, node_value}
use Rattle.sal_tree_text.proofs.TreeRows.{tree_same}
use Rattle.sal_tree_text.proofs.TreeTexts.{on_ok}
use Rattle.sal_tree_text.proofs.trees.push_tree.Goals as goal

pub returns : goal.returns
returns c =
    let table = c.args.schema.now in
    let old = string_bytes c.args.text.now in
    let new = string_bytes c.push_members.new.text in
    let root = c.args.root.now in
    let value : Tree → Data = λ u. members_value table None (node_value table 32) u in
    let whole : IsWhole root = c.node.ensures.whole in
    let space : string_bytes c.push.new.self ≡ old ++ 32 ∷ [] = search rules in
    let here : value c.deref.result.now ≡ write_data table [] (rows_of root) = ap value (c.deref.ensures ∙ c.node.ensures.tree) ∙ sym (tree_same table root whole.ordered) in
    on_ok (new ≡ string_bytes c.push.new.self ++ compact_text (value c.deref.result.now)) (new ≡ old ++ 32 ∷ compact_text (write_data table [] (rows_of root))) c.push_members.result
    (λ e. e ∙ ap (λ (s : List ℕ). s ++ compact_text (value c.deref.result.now)) space ∙ append_assoc old (32 ∷ []) (compact_text (value c.deref.result.now)) ∙ ap (λ (d : Data). old ++ 32 ∷ compact_text d) here)
    c.push_members.ensures
