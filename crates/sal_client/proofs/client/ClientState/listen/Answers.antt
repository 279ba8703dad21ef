-- The listener that was made is in its slot, with its opening.
use Rattle.std.proofs.Common.{◌∙◌, ap, refl}
use Rattle.sal_history.specs.declared.call.Call.TheVariants.{Listen as ListenCall}
use Rattle.sal_script.specs.declared.reply.StepReply.TheVariants.{Called}
use Rattle.sal_client.specs.declared.wish.Wish.TheVariants.{Listen}
use Rattle.sal_client.specs.Slots.{held}
use Rattle.sal_client.specs.declared.follower.Follower.{Follower}
use Rattle.sal_client.specs.Clients.{client_of}
use Rattle.sal_client.proofs.Heard.{kept_listening, met_listen, sound_listening}
use Rattle.sal_client.proofs.Leaving.{leaves_made, leaves_refused, sound_behind}
use Rattle.sal_client.proofs.client.ClientState.listen.Goals as goal

pub returns-in_ok-reply-in-Ok : goal.returns-in_ok-reply-in-Ok
returns-in_ok-reply-in-Ok c =
    let old = c.args.self.now in
    let known = c.args.hub.now in
    let target = c.args.target.now in
    let call = ListenCall target.domain target.store target.path in
    let last = c.tokens_last.ensures in
    let f : Follower = record { id = c.in-Ok.id; store = target.store; path = target.path; mirror = record { version = c.in-Ok.opened.version; rows = c.in-Ok.opened.rows } } in
    leaves_made (Listen c.args.slot target) known c.listen.new.self old call _ (record { number = refl; replies = refl })
    (λ tables read. met_listen tables known (client_of old) c.args.slot target.domain target.store target.text.value target.path read.0 read.1) _ c.called.result c.in-Ok.ensures.answer (c.called.ensures ∙ ap Called c.in_ok-reply-in-Ok.ensures)
    (kept_listening old (held c.put_new.new.listeners) c.args.slot target.domain f c.in-Ok.ensures.domain c.in_ok-put_new-in-Ok.ensures)
    (sound_listening (last.begun, last.given, last.opened, last.called) known c.listen.new.self old _ c.args.slot c.requires.sound refl refl refl refl refl
    target.domain target.store target.path c.in-Ok.id c.in-Ok.opened c.in-Ok.ensures.answer c.in-Ok.ensures.domain c.in-Ok.ensures.made c.in_ok-put_new-in-Ok.ensures)

pub returns-in-Err : goal.returns-in-Err
returns-in-Err c =
    let old = c.args.self.now in
    let known = c.args.hub.now in
    let target = c.args.target.now in
    let call = ListenCall target.domain target.store target.path in
    let last = c.tokens_last.ensures in
    leaves_refused (Listen c.args.slot target) known c.listen.new.self old call old (record { number = refl; replies = refl })
    (λ tables read. met_listen tables known (client_of old) c.args.slot target.domain target.store target.text.value target.path read.0 read.1) c.in-Err.fault c.refused_call.result c.in-Err.ensures.answer c.refused_call.ensures refl
    (λ made. sound_behind (Listen c.args.slot target) known c.listen.new.self old call (last.begun, last.given, last.opened, last.called) refl _ made c.requires.sound)
