use Rattle.std.proofs.Common.{sym, subst}
use Rattle.sal_tree_text.specs.Named.{AreNamed}
use Rattle.sal_tree_text.proofs.NameOrder.{named-insert, members-more}
use Rattle.sal_tree_text.proofs.members.add_child.Goals as goal

pub returns-in_ok-insert-in-Node-clause-named : goal.returns-in_ok-insert-in-Node-clause-named
returns-in_ok-insert-in-Node-clause-named c =
    subst (AreNamed c.args.schema.now c.args.parent) (sym c.in_ok-insert-in-Node.ensures.entries)
    (named-insert c.args.schema.now c.args.parent c.args.named.now.entries c.in_ok-name-in-Node.name c.args.child c.requires.named (c.in-Node.node, c.in-Node.is, c.in_ok-name-in-Node.ensures))

pub returns-in_ok-insert-in-Node-clause-members : goal.returns-in_ok-insert-in-Node-clause-members
returns-in_ok-insert-in-Node-clause-members c = λ f.
    members-more c.args.schema.now c.args.parent f c.args.named.now.entries c.insert.new.self.entries c.in_ok-name-in-Node.name c.args.child c.in-Node.node c.in-Node.is c.in_ok-name-in-Node.ensures c.in_ok-insert-in-Node.ensures.entries
