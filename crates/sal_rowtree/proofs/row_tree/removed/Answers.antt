use Rattle.sal_tree.specs.Rows.{rows_of}
use Rattle.sal_tree.proofs.Cells.{ascending-rows_of}
use Rattle.sal_rowtree.proofs.OneRow.{put-rest, rest-under}
use Rattle.sal_rowtree.proofs.row_tree.removed.Goals as goal

pub put-requires : goal.put-requires
put-requires c = rest-under (rows_of c.args.root.now) c.args.path.now c.in_ok-rows.rows c.in_ok-rows.ensures

pub returns : goal.returns
returns c = put-rest (rows_of c.args.root.now) c.args.path.now (rows_of c.in_ok-after.after) c.in_ok-rows.rows c.in_ok-rows.ensures (ascending-rows_of c.args.root.now c.node.ensures.whole.ordered) c.in_ok-after.ensures.cells c.in_ok-after.ensures.rows
