use Rattle.std.proofs.Common.{ap, sym, ◌∙◌}
use Rattle.sal_node.specs.Tree.{Tree, is_filled}
use Rattle.sal_node.specs.Shape.{tree_at}
use Rattle.sal_tree.specs.Grow.{present}
use Rattle.sal_tree.proofs.Cells.{has-rows_of}
use Rattle.sal_tree.proofs.root.Root.exists.Goals as goal

pub returns-in-None-clause-rows : goal.returns-in-None-clause-rows
returns-in-None-clause-rows c = sym (ap (λ o. present (tree_at o)) c.in-None.is) ∙ ap present c.get.ensures ∙ sym (has-rows_of c.args.self.now c.node.ensures.whole.ordered c.args.path.now)

pub returns-in-Some-clause-rows : goal.returns-in-Some-clause-rows
returns-in-Some-clause-rows c = c.is_filled.ensures ∙ ap (λ (t : Tree). is_filled t.cell t.kids) c.deref.ensures ∙ sym (ap (λ o. present (tree_at o)) c.in-Some.is) ∙ ap present c.get.ensures ∙ sym (has-rows_of c.args.self.now c.node.ensures.whole.ordered c.args.path.now)
