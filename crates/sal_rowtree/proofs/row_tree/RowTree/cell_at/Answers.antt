use Rattle.std.proofs.Common.{ap, sym, ◌∙◌, Some}
use Rattle.sal_types.specs.Tree.{cell}
use Rattle.sal_tree.specs.Grow.{at, cell_in}
use Rattle.sal_tree.proofs.Cells.{cell-rows_of}
use Rattle.sal_rowtree.proofs.row_tree.RowTree.cell_at.Goals as goal

pub returns : goal.returns
returns c =
    let p = c.args.steps.now in
    c.cell_of.ensures
    ∙ ap cell_in c.reached.ensures.node
    ∙ ap (λ t. cell_in (at (Some t) p)) c.node.ensures.tree
    ∙ sym (cell-rows_of c.self.inside.root c.node.ensures.whole.ordered p)
    ∙ ap (λ rows. cell rows p) c.self.view_is
