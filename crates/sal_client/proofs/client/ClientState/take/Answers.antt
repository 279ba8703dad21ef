-- The listener's rows are those at the end of the batch.
use Rattle.std.proofs.Common.{◌≡◌, ◌∙◌, Some, ap, refl}
use Rattle.sal_history.specs.declared.call.Call.TheVariants.{Take as TakeCall}
use Rattle.sal_history.specs.declared.reply.Reply.TheVariants.{Batch}
use Rattle.sal_script.specs.declared.reply.StepReply.TheVariants.{Called}
use Rattle.sal_client.specs.declared.wish.Wish.TheVariants.{Take}
use Rattle.sal_client.specs.Slots.{held}
use Rattle.sal_client.proofs.Following.{token_of}
use Rattle.sal_client.proofs.Heard.{kept_taken, met_take, sound_refused, sound_taken}
use Rattle.sal_client.proofs.Leaving.{leaves_made, leaves_refused}
use Rattle.sal_client.proofs.client.ClientState.take.Goals as goal

pub take-requires : goal.take-requires
take-requires c =
    let old = c.args.self.now in
    let f = c.filled.result.now in
    record { token = token_of c.args.hub.now old.number f (c.requires.sound.listeners c.args.slot f c.filled.ensures) }

pub returns-in_ok-advance_in-in-Ok : goal.returns-in_ok-advance_in-in-Ok
returns-in_ok-advance_in-in-Ok c =
    let old = c.args.self.now in
    let known = c.args.hub.now in
    let f = c.filled.result.now in
    let found : held old.listeners c.args.slot ≡ Some f = c.filled.ensures in
    let (g, goes, filled) = c.in_ok-advance_in-in-Ok.ensures f found in
    let last = c.tokens_last.ensures in
    leaves_made (Take c.args.slot) known c.take.new.self old (TakeCall f.id.number) _ (record { number = refl; replies = refl }) (λ tables read. met_take tables known old c.args.slot f found) _ c.called.result c.in-Ok.ensures.answer
    (c.called.ensures ∙ ap (λ d. Called (Batch d c.in-Ok.batch)) c.domain-domain.ensures) (kept_taken old (held c.advance_in.new.listeners) c.args.slot f g c.in-Ok.batch found goes filled)
    (sound_taken (last.begun, last.given, last.opened, last.called) known c.take.new.self old _ c.args.slot c.requires.sound refl refl refl refl refl f g c.in-Ok.batch found c.in-Ok.ensures.answer goes filled)

pub returns-in-Err : goal.returns-in-Err
returns-in-Err c =
    let old = c.args.self.now in
    let known = c.args.hub.now in
    let f = c.filled.result.now in
    let found : held old.listeners c.args.slot ≡ Some f = c.filled.ensures in
    let last = c.tokens_last.ensures in
    leaves_refused (Take c.args.slot) known c.take.new.self old (TakeCall f.id.number) old (record { number = refl; replies = refl }) (λ tables read. met_take tables known old c.args.slot f found) c.in-Err.fault c.refused_call.result c.in-Err.ensures.answer c.refused_call.ensures refl
    (λ made. sound_refused (last.begun, last.given, last.opened, last.called) known c.take.new.self old f.id.number c.in-Err.fault c.requires.sound made)
