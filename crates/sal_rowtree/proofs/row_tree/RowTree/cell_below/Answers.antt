use Rattle.std.proofs.Common.{ap, sym, ◌∙◌, Some, ◌++◌, ◌∷◌, []}
use Rattle.sal_types.specs.Tree.{cell}
use Rattle.sal_tree.specs.Grow.{at, cell_in, kid}
use Rattle.sal_tree.proofs.Cells.{cell-rows_of}
use Rattle.sal_types.specs.declared.value.Step.TheVariants.{Node}
use Rattle.sal_tree.proofs.Laws.{at-append}
use Rattle.sal_rowtree.proofs.row_tree.RowTree.cell_below.Goals as goal

pub returns : goal.returns
returns c =
    let x = Node c.args.node in
    let q = c.args.steps.now ++ x ∷ [] in
    c.cell_of.ensures
    ∙ ap cell_in c.child_of.ensures.kid
    ∙ ap (λ o. cell_in (kid o x)) (c.reached-above.ensures.node ∙ ap (λ t. at (Some t) c.args.steps.now) c.node.ensures.tree)
    ∙ ap cell_in (sym (at-append (Some c.self.inside.root) c.args.steps.now (x ∷ [])))
    ∙ sym (cell-rows_of c.self.inside.root c.node.ensures.whole.ordered q)
    ∙ ap (λ rows. cell rows q) c.self.view_is
