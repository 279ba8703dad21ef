-- What was found and left are the hubs of the hub's call.
use Rattle.std.proofs.Common.{rules, ◌∙◌, subst}
use Rattle.sal_hub.specs.HubHistory.{HubHistory}
use Rattle.sal_broker.specs.Turns.{OneMoreAtMost}
use Rattle.sal_broker.proofs.Leaving.{calls_add}
use Rattle.sal_broker.proofs.sal.Sal.upgrade.Goals as goal

pub leave-requires-clause-added : goal.leave-requires-clause-added
leave-requires-clause-added g c =
    let v = c.take_turn-held.result.view in
    let left = c.upgrade-answer.new.self in
    subst (λ (k : HubHistory). OneMoreAtMost v k left) (c.hub.ensures.value ∙ c.take_turn-held.ensures.hub)
    (calls_add v c.hub.result.now left c.number-client.result _ _ c.upgrade-answer.result c.number-client.ensures c.upgrade-answer.ensures.answer)

pub returns-clause-turn : goal.returns-clause-turn
returns-clause-turn g c = (
  search rules,
  (c.number-client.result, c.hub.result.now, c.upgrade-answer.new.self, c.upgrade-answer.ensures.answer, record { number = search rules; over = search rules; seen = search rules; mine = search rules; now = search rules; own = search rules }),
)
