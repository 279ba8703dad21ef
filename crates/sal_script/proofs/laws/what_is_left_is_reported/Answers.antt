use Rattle.sal_script.proofs.Reported.{what_is_left_is_reported}
use Rattle.sal_script.proofs.laws.what_is_left_is_reported.Goals as goal

pub returns : goal.returns
returns c = what_is_left_is_reported
