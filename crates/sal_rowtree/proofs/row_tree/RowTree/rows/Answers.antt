use Rattle.std.proofs.Common.{ap, ◌∙◌}
use Rattle.sal_types.specs.Tree.{under}
use Rattle.sal_tree.specs.Rows.{rows_of}
use Rattle.sal_rowtree.proofs.OneRow.{under-root}
use Rattle.sal_rowtree.proofs.row_tree.RowTree.rows.Goals as goal

pub returns : goal.returns
returns c = c.in_ok-rows.ensures ∙ ap (under (rows_of c.self.inside.root)) c.root.ensures ∙ under-root (rows_of c.self.inside.root) ∙ c.self.view_is
