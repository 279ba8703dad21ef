use Rattle.sal_rows.proofs.Patched.{with-changes_under}
use Rattle.sal_rows.proofs.change_laws.changes_give_the_rows_after.Goals as goal

pub returns : goal.returns
returns c before after p g h = with-changes_under before after p g h
