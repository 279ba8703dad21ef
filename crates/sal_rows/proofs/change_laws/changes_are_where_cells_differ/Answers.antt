use Rattle.sal_rows.proofs.Differing.{at-changes_under}
use Rattle.sal_rows.proofs.change_laws.changes_are_where_cells_differ.Goals as goal

pub returns : goal.returns
returns c before after p r h = at-changes_under before after p r h
