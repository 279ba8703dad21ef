use Rattle.std.proofs.Common.{List, ◌++◌, ap, sym, ◌∙◌}
use Rattle.sal_node.specs.Shape.{tree_at}
use Rattle.sal_tree.specs.Grow.{cell_in}
use Rattle.sal_tree.proofs.Cells.{cell-rows_of}
use Rattle.sal_rows.specs.declared.change.Change.{Change}
use Rattle.sal_delta.specs.ByOps.{change_of}
use Rattle.sal_delta.proofs.Exact.{moved-here}
use Rattle.sal_delta.proofs.commit.add_at.Goals as goal

pub returns : goal.returns
returns c =
    let p = c.args.path.now in
    let was = ap cell_in c.get.ensures ∙ sym (cell-rows_of c.args.commit.now.before.now c.node.ensures.whole.ordered p) in
    let is = ap cell_in c.get-2.ensures ∙ sym (cell-rows_of c.args.commit.now.after.now c.node-2.ensures.whole.ordered p) in
    c.in_ok-note_cells.ensures
    ∙ ap (λ (l : List Change). c.args.into.now.items ++ l) (moved-here p (cell_in (tree_at c.get.result)) (cell_in (tree_at c.get-2.result)) ∙ (λ k. change_of p (was k) (is k)))
