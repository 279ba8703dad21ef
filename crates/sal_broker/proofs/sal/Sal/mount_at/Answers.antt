-- What was found and left are the hubs of the hub's call.
use Rattle.std.proofs.Common.{rules}
use Rattle.sal_broker.proofs.sal.Sal.mount_at.Goals as goal

pub returns-clause-turn : goal.returns-clause-turn
returns-clause-turn g c = (
  search rules,
  (c.number-client.result, c.hub.result.now, c.mount_at-answer.new.self, c.mount_at-answer.ensures.answer, record { number = search rules; over = search rules; seen = search rules; mine = search rules; now = search rules; own = search rules }),
)
