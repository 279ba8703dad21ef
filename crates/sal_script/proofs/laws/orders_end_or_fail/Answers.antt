use Rattle.sal_script.proofs.Orders.{orders_end_or_fail}
use Rattle.sal_script.proofs.laws.orders_end_or_fail.Goals as goal

pub returns : goal.returns
returns c = orders_end_or_fail
