use Rattle.sal_order.proofs.Told.{orders-are-told}
use Rattle.sal_order.proofs.laws.orders_are_told.Goals as goal

pub returns : goal.returns
returns c = orders-are-told
