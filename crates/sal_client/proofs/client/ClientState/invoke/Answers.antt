-- The id of the request is in its slot.
use Rattle.std.proofs.Common.{◌∙◌, ap, refl}
use Rattle.sal_history.specs.declared.call.Call.TheVariants.{Invoke as InvokeCall}
use Rattle.sal_history.specs.declared.reply.Reply.TheVariants.{CallMade}
use Rattle.sal_script.specs.Play.{ask}
use Rattle.sal_script.specs.declared.reply.StepReply.TheVariants.{Called}
use Rattle.sal_client.specs.declared.rpcs.RpcWish.TheVariants.{Invoke}
use Rattle.sal_client.specs.declared.wish.Wish.TheVariants.{Rpc}
use Rattle.sal_client.specs.Slots.{held}
use Rattle.sal_client.specs.Clients.{client_of, request_of}
use Rattle.sal_client.proofs.Places.{seen-filled}
use Rattle.sal_client.proofs.Soundness.{IsSound-invoked}
use Rattle.sal_client.proofs.Leaving.{leaves_made, leaves_refused, sound_behind}
use Rattle.sal_client.proofs.client.ClientState.invoke.Goals as goal

pub returns-in-Ok : goal.returns-in-Ok
returns-in-Ok c =
    let old = c.args.self.now in
    let known = c.args.hub.now in
    let service = c.args.ask.service in
    let wish = Rpc (Invoke c.args.slot c.args.ask) in
    let call = InvokeCall service.rpc service.context c.args.ask.input in
    let made = c.in-Ok.ensures.answer in
    let last = c.tokens_last.ensures in
    let filled = seen-filled request_of (held old.invoked) (held c.fill_slot.new.slots) c.args.slot c.in-Ok.id c.in_ok-fill_slot-in-Ok.ensures in
    let was = sound_behind wish known c.invoke.new.self old call (last.begun, last.given, last.opened, last.called) refl _ made c.requires.sound in
    leaves_made wish known c.invoke.new.self old call _ (record { number = refl; replies = refl }) (λ tables read. ap (λ o. ask o (client_of old)) read) _ c.called.result made (c.called.ensures ∙ ap (λ n. Called (CallMade n)) c.number-number.ensures)
    (λ i. record (client_of old) { invoked = filled i }) (IsSound-invoked c.invoke.new.self old _ c.args.slot c.in-Ok.id was c.in-Ok.ensures.given refl refl refl refl refl c.in_ok-fill_slot-in-Ok.ensures)

pub returns : goal.returns
returns c =
    let old = c.args.self.now in
    let service = c.args.ask.service in
    let wish = Rpc (Invoke c.args.slot c.args.ask) in
    let call = InvokeCall service.rpc service.context c.args.ask.input in
    let last = c.tokens_last.ensures in
    leaves_refused wish c.args.hub.now c.invoke.new.self old call old (record { number = refl; replies = refl }) (λ tables read. ap (λ o. ask o (client_of old)) read) c.in-Err.fault c.refused_call.result c.in-Err.ensures.answer c.refused_call.ensures refl
    (λ made. sound_behind wish c.args.hub.now c.invoke.new.self old call (last.begun, last.given, last.opened, last.called) refl _ made c.requires.sound)
