use Rattle.sal_script_laws.proofs.Summed.{all_sums, stay_distinct, sum_grows}
use Rattle.sal_script_laws.proofs.laws.rounds_add_up.Goals as goal

pub returns : goal.returns
returns c = record { distinct = stay_distinct; grows = sum_grows; all = all_sums }
