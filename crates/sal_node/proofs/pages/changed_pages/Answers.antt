use Rattle.sal_node.specs.Tree.{change}
use Rattle.std.proofs.Common.{take, drop, ◌+◌, ap, ◌++◌, ◌∙◌, sym}
use Rattle.sal_node.specs.declared.node.Page.{Page}
use Rattle.sal_node.specs.Shape.{tree_in, row_of, listed}
use Rattle.sal_node.proofs.Targets.{change-target, changed-few, page-sorted}
use Rattle.sal_node.proofs.Newest.{page-upto}
use Rattle.sal_node.proofs.pages.changed_pages.Goals as goal

pub changed_page-requires-clause-newest : goal.changed_page-requires-clause-newest
changed_page-requires-clause-newest c = rw c.deref.ensures (page-upto c.args.pages.now c.target-at.result c.index-pages-at.result c.requires.old c.target-at.ensures.bound c.index-pages-at.is)

pub changed_page-requires-clause-sorted : goal.changed_page-requires-clause-sorted
changed_page-requires-clause-sorted c = rw c.deref.ensures (page-sorted c.args.pages.now c.target-at.result c.index-pages-at.result c.target-at.ensures.bound c.index-pages-at.is c.requires.sorted)

pub repaged-requires-clause-few : goal.repaged-requires-clause-few
repaged-requires-clause-few c = changed-few c.args.pages.now c.args.step.now (tree_in c.args.node) c.target-at.result c.index-pages-at.result c.deref.result.now.children.items _ c.target-at.ensures.bound c.index-pages-at.is c.requires.old (ap (λ (p : Page). p.children.items) c.deref.ensures) c.in_ok-page.ensures.list

pub returns-clause-list : goal.returns-clause-list
returns-clause-list c =
    c.in_ok-list-2.ensures.list
    ∙ ap (λ es. listed (take c.target-at.result c.args.pages.now) ++ (es ++ listed (drop (c.target-at.result + 1) c.args.pages.now))) (c.in_ok-page.ensures.list ∙ ap (λ (p : Page). change c.args.step.now (tree_in c.args.node) (row_of p.children.items)) c.deref.ensures)
    ∙ sym (change-target c.args.pages.now c.args.step.now (tree_in c.args.node) c.target-at.result c.index-pages-at.result c.target-at.ensures c.index-pages-at.is c.requires.old c.requires.sorted)
