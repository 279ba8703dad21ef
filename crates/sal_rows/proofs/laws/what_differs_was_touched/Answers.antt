use Rattle.sal_rows.proofs.Quiet.{same_or_touched}
use Rattle.sal_rows.proofs.laws.what_differs_was_touched.Goals as goal

pub returns : goal.returns
returns c = same_or_touched
