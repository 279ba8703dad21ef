use Rattle.sal_script.proofs.Orders.{plays_follow_their_order}
use Rattle.sal_script.proofs.laws.plays_follow_their_order.Goals as goal

pub returns : goal.returns
returns c = plays_follow_their_order
