use Rattle.std.proofs.Common.{[], ◌∷◌, ap, ◌∙◌}
use Rattle.sal_types.specs.declared.row.Row.{Row}
use Rattle.sal_tree.specs.Rows.{rows_of}
use Rattle.sal_tree.proofs.Cells.{ascending-rows_of}
use Rattle.sal_rowtree.proofs.OneRow.{merged-row, one-under}
use Rattle.sal_rowtree.proofs.row_tree.set.Goals as goal

pub merge-requires : goal.merge-requires
merge-requires c = one-under c.in_ok-rows.rows (record { path = c.args.path.now; cell = c.args.cell.now }) (c.in_ok-rows.ensures ∙ ap (λ (row : Row). row ∷ []) c.in_ok-row.ensures)

pub returns : goal.returns
returns c =
    let is = c.in_ok-rows.ensures ∙ ap (λ (row : Row). row ∷ []) c.in_ok-row.ensures in
    merged-row (rows_of c.args.root.now) (rows_of c.in_ok-after.after) c.args.path.now c.args.cell.now c.in_ok-rows.rows is (ascending-rows_of c.args.root.now c.node.ensures.whole.ordered) c.in_ok-after.ensures.cells c.in_ok-after.ensures.rows
