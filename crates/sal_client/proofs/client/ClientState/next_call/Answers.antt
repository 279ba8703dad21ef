-- The request is in its slot, if one waited.
use Rattle.std.proofs.Common.{◌∙◌, ap, refl}
use Rattle.sal_script.specs.Play.{spot_after}
use Rattle.sal_history.specs.declared.call.Call.TheVariants.{NextCall as NextCallCall}
use Rattle.sal_script.specs.declared.reply.StepReply.TheVariants.{Called}
use Rattle.sal_client.specs.declared.rpcs.RpcWish.TheVariants.{NextCall}
use Rattle.sal_client.specs.declared.wish.Wish.TheVariants.{Rpc}
use Rattle.sal_client.specs.Slots.{held}
use Rattle.sal_client.proofs.Invoked.{kept_handed}
use Rattle.sal_client.proofs.Soundness.{IsSound-same}
use Rattle.sal_client.proofs.Leaving.{leaves_made, leaves_refused, sound_behind}
use Rattle.sal_client.proofs.client.ClientState.next_call.Goals as goal

pub returns-in_ok-put_handed-in-Ok : goal.returns-in_ok-put_handed-in-Ok
returns-in_ok-put_handed-in-Ok c =
    let old = c.args.self.now in
    let known = c.args.hub.now in
    let wish = Rpc (NextCall c.args.slot) in
    let made = c.in-Ok.ensures.answer in
    let last = c.tokens_last.ensures in
    let was = sound_behind wish known c.next_call.new.self old NextCallCall (last.begun, last.given, last.opened, last.called) refl _ made c.requires.sound in
    leaves_made wish known c.next_call.new.self old NextCallCall _ (record { number = refl; replies = refl }) (λ tables read. refl) _ c.called.result made (c.called.ensures ∙ ap Called c.handed.ensures)
    (kept_handed old (held c.put_handed.new.slots) c.args.slot (spot_after known.world known.log) c.in-Ok.found c.in_ok-put_handed-in-Ok.ensures) (IsSound-same c.next_call.new.self old _ was refl refl refl (refl, refl, refl))

pub returns-in-Err : goal.returns-in-Err
returns-in-Err c =
    let old = c.args.self.now in
    let wish = Rpc (NextCall c.args.slot) in
    let last = c.tokens_last.ensures in
    leaves_refused wish c.args.hub.now c.next_call.new.self old NextCallCall old (record { number = refl; replies = refl }) (λ tables read. refl) c.in-Err.fault c.refused_call.result c.in-Err.ensures.answer c.refused_call.ensures refl
    (λ made. sound_behind wish c.args.hub.now c.next_call.new.self old NextCallCall (last.begun, last.given, last.opened, last.called) refl _ made c.requires.sound)
