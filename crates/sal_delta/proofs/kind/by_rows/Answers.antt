use Rattle.std.proofs.Common.{ap, sym, ◌∙◌}
use Rattle.sal_tree.specs.Grow.{cell_in}
use Rattle.sal_tree.proofs.Cells.{cell-rows_of}
use Rattle.sal_rows.specs.Kinds.{kind_by_cells}
use Rattle.sal_delta.proofs.kind.by_rows.Goals as goal

pub returns : goal.returns
returns c =
    let was = ap cell_in c.get.ensures ∙ sym (cell-rows_of c.args.before.now c.node.ensures.whole.ordered c.args.path.now) in
    let is = ap cell_in c.get-2.ensures ∙ sym (cell-rows_of c.args.after.now c.node-2.ensures.whole.ordered c.args.path.now) in
    c.by_nodes.ensures ∙ (λ k. kind_by_cells (was k) (is k))
