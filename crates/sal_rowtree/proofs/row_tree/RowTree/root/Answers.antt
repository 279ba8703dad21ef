use Rattle.std.proofs.Common.{subst}
use Rattle.sal_types.specs.Tree.{IsAscending}
use Rattle.sal_tree.proofs.Cells.{ascending-rows_of}
use Rattle.sal_rowtree.proofs.row_tree.RowTree.root.Goals as goal

pub returns-clause-ascending : goal.returns-clause-ascending
returns-clause-ascending c = subst IsAscending c.self.view_is (ascending-rows_of c.self.inside.root c.node.ensures.whole.ordered)
