use Rattle.std.proofs.Common.{ap, ◌∙◌, sym}
use Rattle.std.specs.FinMap.{find}
use Rattle.sal_types.specs.Order.{step_cmp}
use Rattle.sal_node.specs.Tree.{Tree, pairs}
use Rattle.sal_node.specs.Shape.{paged}
use Rattle.sal_node.proofs.Entries.{pairs-grove}
use Rattle.sal_node.proofs.node.Node.child.Goals as goal

pub child_of-requires-clause-sorted : goal.child_of-requires-clause-sorted
child_of-requires-clause-sorted c = rw (← pairs-grove (paged c.self.inside.paging), ap (λ (t : Tree). pairs t.kids) c.self.view_is) c.requires

pub returns : goal.returns
returns c = c.child_of.ensures ∙ ap (find step_cmp c.args.step.now) (sym (pairs-grove (paged c.self.inside.paging)) ∙ ap (λ (t : Tree). pairs t.kids) c.self.view_is)
