use Rattle.std.proofs.Common.{◌≡◌, ap, ◌∙◌, sym}
use Rattle.sal_node.specs.Tree.{Tree, pairs, change, grove}
use Rattle.sal_node.specs.Shape.{paged, tree_in}
use Rattle.sal_node.proofs.Entries.{pairs-grove}
use Rattle.sal_node.proofs.node.Node.with_child.Goals as goal

pub changed_paging-requires-clause-sorted : goal.changed_paging-requires-clause-sorted
changed_paging-requires-clause-sorted c = rw (← pairs-grove (paged c.self.inside.paging), ap (λ (t : Tree). pairs t.kids) c.self.view_is) c.requires

pub returns : goal.returns
returns c =
    let list : paged c.self.inside.paging ≡ pairs c.args.self.now.kids = sym (pairs-grove (paged c.self.inside.paging)) ∙ ap (λ (t : Tree). pairs t.kids) c.self.view_is in
    let cell : c.in_ok-cell.cell ≡ c.args.self.now.cell = c.in_ok-cell.ensures ∙ ap (λ (t : Tree). t.cell) c.self.view_is in
    let kids = ap grove (c.in_ok-paging.ensures.list ∙ ap (change c.args.step.now (tree_in c.args.node)) list) in
    λ i. record { stamp = c.args.stamp; cell = cell i; kids = kids i }
