use Rattle.sal_script.proofs.Few.{what_is_left_is_short}
use Rattle.sal_script.proofs.laws.what_is_left_is_short.Goals as goal

pub returns : goal.returns
returns c = what_is_left_is_short
