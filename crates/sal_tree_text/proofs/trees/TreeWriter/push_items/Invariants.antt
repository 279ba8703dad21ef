use Rattle.std.proofs.Common.{◌≡◌, ◌++◌, false, drop, string_bytes}
use Rattle.serde_json.specs.View.{items_of}
use Rattle.serde_json.specs.Written.{items_text}
use Rattle.sal_node.specs.Shape.{seen}
use Rattle.sal_tree_text.specs.Trees.{items_values}
use Rattle.sal_tree_text.proofs.trees.TreeWriter.push_items.Given as goal

abbrev pub invariant-loop-child : goal.invariant-loop-child
invariant-loop-child l =
    string_bytes l.text ++ items_text l.is_later (items_of (items_values l.self.schema.now l.node (drop l.child-index (seen l.child-items)))) ≡ string_bytes l.initial.text ++ items_text false (items_of (items_values l.self.schema.now l.node (seen l.child-items)))
