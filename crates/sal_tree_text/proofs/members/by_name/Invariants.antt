use Rattle.std.proofs.Common.{◌≡◌, take}
use Rattle.sal_node.specs.Shape.{seen}
use Rattle.sal_tree_text.specs.Named.{AreNamed, members_named}
use Rattle.sal_tree_text.specs.Trees.{Teller, members_by_name}
use Rattle.sal_tree_text.proofs.members.by_name.Given as goal

abbrev pub invariant-loop-child : goal.invariant-loop-child
invariant-loop-child l = record {
  named : AreNamed l.schema l.parent l.named.entries;
  members : (f : Teller) → members_named f l.named.entries ≡ members_by_name l.schema l.parent f (take l.child-index (seen l.children));
}
