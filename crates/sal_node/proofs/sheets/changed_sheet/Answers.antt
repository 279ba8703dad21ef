use Rattle.std.specs.declared.sync.Arc.{Arc}
use Rattle.std.specs.declared.alloc.Global.{Global}
use Rattle.std.proofs.Common.{List, length, arith, ap, sym, ◌∙◌, subst}
use Rattle.sal_types.specs.declared.value.Step.{Step}
use Rattle.sal_node.specs.Tree.{Tree, change}
use Rattle.sal_node.specs.declared.node.Page.{Page}
use Rattle.sal_node.specs.Shape.{tree_in, listed, UpTo}
use Rattle.sal_node.proofs.Newest.{UpTo-change}
use Rattle.sal_node.proofs.sheets.changed_sheet.Goals as goal

pub changed_pages-requires-clause-old : goal.changed_pages-requires-clause-old
changed_pages-requires-clause-old c = rw c.deref.ensures.value c.requires.pages

pub changed_pages-requires-clause-sorted : goal.changed_pages-requires-clause-sorted
changed_pages-requires-clause-sorted c = rw c.deref.ensures.value c.requires.sorted

pub returns-clause-list : goal.returns-clause-list
returns-clause-list c = c.in_ok-pages.ensures.list ∙ ap (λ (ps : List (Arc Page Global)). change c.args.step.now (tree_in c.args.node) (listed ps)) c.deref.ensures.value

pub returns-clause-count : goal.returns-clause-count
returns-clause-count c = omega (arith, c.in_ok-pages.ensures.count, ap length c.deref.ensures.value)

pub returns-clause-newest : goal.returns-clause-newest
returns-clause-newest c =
    let list = c.in_ok-pages.ensures.list ∙ ap (λ (ps : List (Arc Page Global)). change c.args.step.now (tree_in c.args.node) (listed ps)) c.deref.ensures.value in
    subst (λ (es : List (Step × Tree)). UpTo c.newest_with-newest.result es) (sym list) (UpTo-change c.args.sheet.now.newest c.newest_with-newest.result c.args.step.now (tree_in c.args.node) (listed c.args.sheet.now.pages.items) c.newest_with-newest.ensures.old c.newest_with-newest.ensures.node c.requires.newest)
