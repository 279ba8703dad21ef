use Rattle.std.proofs.Common.{ap, ◌∙◌, sym}
use Rattle.sal_node.specs.Tree.{Tree, pairs}
use Rattle.sal_node.specs.Shape.{paged, made_by}
use Rattle.sal_node.proofs.Entries.{pairs-grove}
use Rattle.sal_node.proofs.node.Node.children_with.Goals as goal

pub returns : goal.returns
returns c = c.in_ok-list.ensures ∙ ap (made_by c.args.stamps.now) (sym (pairs-grove (paged c.self.inside.paging)) ∙ ap (λ (t : Tree). pairs t.kids) c.self.view_is)
