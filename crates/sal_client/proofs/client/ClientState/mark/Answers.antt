-- A mark changes no slot.
use Rattle.std.proofs.Common.{refl, subst}
use Rattle.sal_history.specs.declared.call.Call.TheVariants.{Mark as MarkCall}
use Rattle.sal_history.specs.declared.reply.Reply.TheVariants.{Accepted}
use Rattle.sal_client.specs.declared.wish.Wish.TheVariants.{Mark}
use Rattle.sal_client.specs.Answers.{IsAnswer}
use Rattle.sal_client.proofs.Leaving.{leaves_slots}
use Rattle.sal_client.proofs.client.ClientState.mark.Goals as goal

pub returns : goal.returns
returns c =
    let last = c.tokens_last.ensures in
    leaves_slots (Mark c.args.mark) c.args.hub.now c.mark.new.self c.args.self.now (MarkCall c.args.mark) (last.begun, last.given, last.opened, last.called) refl c.requires.sound (λ tables read. refl) (λ r. refl)
    (λ _. Accepted) c.mark.result c.answer_to.result c.mark.ensures.answer (subst (λ q. IsAnswer q c.answer_to.result) c.accepted.ensures c.answer_to.ensures)
