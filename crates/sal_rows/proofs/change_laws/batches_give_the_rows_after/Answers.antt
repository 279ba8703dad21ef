use Rattle.sal_rows.proofs.Patched.{with-batch}
use Rattle.sal_rows.proofs.change_laws.batches_give_the_rows_after.Goals as goal

pub returns : goal.returns
returns c trees p b h is = with-batch trees p b h is
