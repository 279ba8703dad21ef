-- What was found and left are the hubs of the last look.
use Rattle.std.proofs.Common.{rules}
use Rattle.sal_broker.proofs.sal.Sal.after.Goals as goal

pub returns-clause-turn : goal.returns-clause-turn
returns-clause-turn g c = (
  c.enter_after-held.result.view.number,
  c.enter_after-held.result.hub,
  c.last_look-answer.new.held.hub,
  search rules,
  record { number = search rules; over = search rules; seen = search rules; mine = search rules; now = search rules; own = search rules },
)
