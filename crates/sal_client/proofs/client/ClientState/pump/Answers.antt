-- A pump changes no slot.
use Rattle.std.proofs.Common.{refl, subst}
use Rattle.sal_history.specs.declared.call.Call.TheVariants.{Pump as PumpCall}
use Rattle.sal_hub.specs.Seen.{pump_reply}
use Rattle.sal_client.specs.declared.wish.Wish.TheVariants.{Pump}
use Rattle.sal_client.specs.Answers.{IsAnswer}
use Rattle.sal_client.proofs.Leaving.{leaves_slots}
use Rattle.sal_client.proofs.client.ClientState.pump.Goals as goal

pub returns : goal.returns
returns c =
    let last = c.tokens_last.ensures in
    leaves_slots Pump c.args.hub.now c.pump.new.self c.args.self.now PumpCall (last.begun, last.given, last.opened, last.called) refl c.requires.sound (λ tables read. refl) (λ r. refl)
    pump_reply c.pump.result c.answer_to.result c.pump.ensures.answer (subst (λ q. IsAnswer q c.answer_to.result) c.pumped.ensures c.answer_to.ensures)
