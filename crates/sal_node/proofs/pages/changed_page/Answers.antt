use Rattle.std.specs.declared.sync.Arc.{Arc}
use Rattle.std.specs.declared.alloc.Global.{Global}
use Rattle.std.proofs.Common.{List, ap, sym, ◌∙◌, subst}
use Rattle.sal_types.specs.declared.value.Step.{Step}
use Rattle.sal_node.specs.Tree.{Tree, change}
use Rattle.sal_node.specs.declared.node.Child.{Child}
use Rattle.sal_node.specs.Shape.{tree_in, row_of, UpTo}
use Rattle.sal_node.proofs.Newest.{UpTo-change}
use Rattle.sal_node.proofs.pages.changed_page.Goals as goal

pub changed-requires : goal.changed-requires
changed-requires c = rw c.deref.ensures.value c.requires.sorted

pub returns-clause-list : goal.returns-clause-list
returns-clause-list c = c.in_ok-children.ensures ∙ ap (λ (cs : List (Arc Child Global)). change c.args.step.now (tree_in c.args.node) (row_of cs)) c.deref.ensures.value

pub returns-clause-newest : goal.returns-clause-newest
returns-clause-newest c =
    let list = c.in_ok-children.ensures ∙ ap (λ (cs : List (Arc Child Global)). change c.args.step.now (tree_in c.args.node) (row_of cs)) c.deref.ensures.value in
    subst (λ (es : List (Step × Tree)). UpTo c.newest_with-newest.result es) (sym list) (UpTo-change c.args.page.now.newest c.newest_with-newest.result c.args.step.now (tree_in c.args.node) (row_of c.args.page.now.children.items) c.newest_with-newest.ensures.old c.newest_with-newest.ensures.node c.requires.newest)
