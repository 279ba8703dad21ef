use Rattle.sal_script.proofs.Summed.{what_a_load_left_is_summed}
use Rattle.sal_script.proofs.laws.what_a_load_left_is_summed.Goals as goal

pub returns : goal.returns
returns c = what_a_load_left_is_summed
