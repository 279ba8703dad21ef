-- The hub that was left is the one that was found.
use Rattle.std.proofs.Common.{rules, refl}
use Rattle.sal_broker.proofs.sal.Sal.has_notes.Goals as goal

pub returns-clause-turn : goal.returns-clause-turn
returns-clause-turn g c = (
  search rules,
  (c.number-client.result, c.hub.result.now, c.hub.result.now, (refl, c.has_notes-answer.ensures), record { number = search rules; over = search rules; seen = search rules; mine = search rules; now = search rules; own = search rules }),
)
