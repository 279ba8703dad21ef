use Rattle.std.proofs.Common.{ap, ◌∙◌, sym}
use Rattle.sal_node.specs.Tree.{Tree, pairs}
use Rattle.sal_node.specs.Shape.{paged}
use Rattle.sal_node.proofs.Entries.{pairs-grove}
use Rattle.sal_node.proofs.node.Node.children.Goals as goal

pub returns : goal.returns
returns c = c.in_ok-list.ensures ∙ sym (pairs-grove (paged c.self.inside.paging)) ∙ ap (λ (t : Tree). pairs t.kids) c.self.view_is
