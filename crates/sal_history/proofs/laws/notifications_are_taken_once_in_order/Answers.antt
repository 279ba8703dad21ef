-- The notifications that a client takes.
use Rattle.sal_history.proofs.Noted.{taken-once-in-order}
use Rattle.sal_history.proofs.laws.notifications_are_taken_once_in_order.Goals as goal

pub returns : goal.returns
returns c = taken-once-in-order
