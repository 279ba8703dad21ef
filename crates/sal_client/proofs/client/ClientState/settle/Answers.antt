-- A settle changes no slot.
use Rattle.std.proofs.Common.{◌∙◌, refl, ap, subst}
use Rattle.std.specs.Option.{option_map}
use Rattle.sal_rows.specs.declared.outcome.Outcome.{Outcome}
use Rattle.sal_history.specs.declared.call.Call.TheVariants.{Settle as SettleCall}
use Rattle.sal_history.specs.declared.reply.Reply.TheVariants.{Settled}
use Rattle.sal_script.specs.Play.{settle}
use Rattle.sal_client.specs.declared.wish.Wish.TheVariants.{Settle}
use Rattle.sal_client.specs.Answers.{IsAnswer, said}
use Rattle.sal_client.specs.Clients.{client_of, number_of}
use Rattle.sal_client.proofs.Leaving.{leaves_slots}
use Rattle.sal_client.proofs.client.ClientState.settle.Goals as goal

pub settle-requires : goal.settle-requires
settle-requires c = record { given = c.requires.sound.receipts c.args.slot c.filled-receipt.result.now c.filled-receipt.ensures }

pub returns : goal.returns
returns c =
    leaves_slots (Settle c.args.slot) c.args.hub.now c.settle.new.self c.args.self.now (SettleCall c.filled-receipt.result.now.number) (c.tokens_last.ensures.begun, c.tokens_last.ensures.given, c.tokens_last.ensures.opened, c.tokens_last.ensures.called) refl c.requires.sound
    (λ tables read. ap (λ o. settle (client_of c.args.self.now) (option_map number_of o)) c.filled-receipt.ensures) (λ r. refl) (λ (o : Outcome). Settled c.filled-receipt.result.now.domain o) c.settle.result c.answer_to.result c.settle.ensures.answer
    (subst (λ q. IsAnswer q c.answer_to.result) (c.settled.ensures ∙ ap (λ d. said (λ (o : Outcome). Settled d o) c.settle.result) c.domain-domain.ensures) c.answer_to.ensures)
