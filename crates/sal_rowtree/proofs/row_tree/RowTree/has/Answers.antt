use Rattle.std.proofs.Common.{ap, sym, ◌∙◌, Some}
use Rattle.sal_types.specs.Tree.{has}
use Rattle.sal_tree.specs.Grow.{at, present}
use Rattle.sal_tree.proofs.Cells.{has-rows_of}
use Rattle.sal_rowtree.proofs.row_tree.RowTree.has.Goals as goal

pub returns : goal.returns
returns c =
    let p = c.args.steps.now in
    c.is_present.ensures
    ∙ ap present c.reached.ensures.node
    ∙ ap (λ t. present (at (Some t) p)) c.node.ensures.tree
    ∙ sym (has-rows_of c.self.inside.root c.node.ensures.whole.ordered p)
    ∙ ap (λ rows. has rows p) c.self.view_is
