use Rattle.sal_script.proofs.Left.{what_is_left_is_one_order}
use Rattle.sal_script.proofs.laws.what_is_left_is_one_order.Goals as goal

pub returns : goal.returns
returns c = what_is_left_is_one_order
