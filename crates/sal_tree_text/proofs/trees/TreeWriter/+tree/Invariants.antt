use Rattle.std.proofs.Common.{◌≡◌, ◌+◌, ◌*◌, ◌++◌, false, drop, string_bytes}
use Rattle.serde_json.specs.View.{items_of}
use Rattle.serde_json.specs.Written.{items_text, members_text}
use Rattle.sal_node.specs.Shape.{seen}
use Rattle.sal_tree_text.specs.Trees.{entries_values, members_in, node_value}
use Rattle.sal_tree_text.proofs.trees.TreeWriter.+tree.Given as goal

abbrev pub decreases-push_node : goal.decreases-push_node
decreases-push_node l = 6 * l.levels

abbrev pub decreases-push_member : goal.decreases-push_member
decreases-push_member l = 6 * l.levels + 1

abbrev pub decreases-push_all : goal.decreases-push_all
decreases-push_all l = 6 * l.levels + 2

abbrev pub decreases-push_members : goal.decreases-push_members
decreases-push_members l = 6 * l.levels + 3

abbrev pub decreases-push_entry : goal.decreases-push_entry
decreases-push_entry l = 6 * l.levels + 4

abbrev pub decreases-push_entries : goal.decreases-push_entries
decreases-push_entries l = 6 * l.levels + 5

abbrev pub invariant-push_all-loop-child : goal.invariant-push_all-loop-child
invariant-push_all-loop-child l =
    let f = node_value l.self.schema.now l.levels in
    string_bytes l.text ++ members_text l.is_later (members_in l.self.schema.now l.parent f (drop l.child-index (seen l.children))) ≡ string_bytes l.initial.text ++ members_text false (members_in l.self.schema.now l.parent f (seen l.children))

abbrev pub invariant-push_entries-loop-child : goal.invariant-push_entries-loop-child
invariant-push_entries-loop-child l =
    let f = node_value l.self.schema.now l.levels in
    string_bytes l.text ++ items_text l.is_later (items_of (entries_values l.self.schema.now l.node f (drop l.child-index (seen l.child-items)))) ≡ string_bytes l.initial.text ++ items_text false (items_of (entries_values l.self.schema.now l.node f (seen l.child-items)))
