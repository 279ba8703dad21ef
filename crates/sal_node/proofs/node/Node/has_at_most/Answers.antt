use Rattle.std.proofs.Common.{◌≡◌, ◌≤◌, ◌↔◌, List, IsTrue, length, ap, sym, ◌∙◌, subst}
use Rattle.sal_types.specs.declared.value.Step.{Step}
use Rattle.sal_node.specs.Tree.{Tree, pairs}
use Rattle.sal_node.specs.Shape.{paged}
use Rattle.sal_node.proofs.Entries.{pairs-grove}
use Rattle.sal_node.proofs.node.Node.has_at_most.Goals as goal

pub returns : goal.returns
returns c =
    let list : paged c.self.inside.paging ≡ pairs c.args.self.now.kids = sym (pairs-grove (paged c.self.inside.paging)) ∙ ap (λ (t : Tree). pairs t.kids) c.self.view_is in
    subst (λ (es : List (Step × Tree)). IsTrue c.are_at_most.result ↔ (length es ≤ c.args.most)) list c.are_at_most.ensures
