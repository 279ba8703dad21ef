-- The transaction that begins is in its slot.
use Rattle.std.proofs.Common.{None, refl, sym}
use Rattle.sal_history.specs.History.{history, is_live}
use Rattle.sal_history.specs.declared.call.Call.TheVariants.{Begin as BeginCall}
use Rattle.sal_hub.specs.Tokens.{base_of, begun_of}
use Rattle.sal_client.specs.declared.wish.Wish.TheVariants.{Begin}
use Rattle.sal_client.specs.Slots.{held}
use Rattle.sal_client.specs.Clients.{IsOwn, client_of, open_of}
use Rattle.sal_client.proofs.Places.{seen-filled}
use Rattle.sal_client.proofs.Domains.{begun_live, live_within}
use Rattle.sal_client.proofs.Soundness.{IsSound-filled}
use Rattle.sal_client.proofs.Answering.{begun_by, in_world, kept_begun}
use Rattle.sal_client.proofs.Leaving.{leaves_made, leaves_refused, sound_behind}
use Rattle.sal_client.proofs.client.ClientState.begin.Goals as goal

pub returns-in_ok-fill_begun-in-Ok : goal.returns-in_ok-fill_begun-in-Ok
returns-in_ok-fill_begun-in-Ok c =
    let old = c.args.self.now in
    let known = c.args.hub.now in
    let tx = c.in-Ok.tx in
    let wish = Begin c.args.slot c.args.domain c.args.mode in
    let call = BeginCall c.args.domain c.args.mode in
    let made = c.in-Ok.ensures.answer in
    let fresh = c.in-Ok.ensures.fresh in
    let last = c.tokens_last.ensures in
    let live = begun_live (is_live known.world (history known.world known.log) c.args.domain) _ (begun_of tx).base_commit (begun_of tx).on _ made.reply in
    let own : IsOwn c.begin.new.self tx = record {
      token = c.in-Ok.ensures.token;
      within = in_world made (sym c.in-Ok.ensures.fresh.domain) (live_within known.world (history known.world known.log) c.args.domain live);
    } in
    let was = sound_behind wish known c.begin.new.self old call (last.begun, last.given, last.opened, last.called) refl _ made c.requires.sound in
    leaves_made wish known c.begin.new.self old call _ (record { number = refl; replies = refl }) (λ tables read. refl) _ c.in_ok-fill_begun-in-Ok.field-0 made c.in_ok-fill_begun-in-Ok.ensures.reply
    (kept_begun known c.args.slot c.args.domain None c.args.mode tx (client_of old) _ fresh (begun_by c.args.domain (begun_of tx) (base_of tx) made c.in-Ok.ensures.token fresh.place fresh.domain) (seen-filled open_of (held old.transactions) (held c.fill_begun.new.slots) c.args.slot tx c.in_ok-fill_begun-in-Ok.ensures.slot))
    (IsSound-filled c.begin.new.self old _ c.args.slot tx was own c.in_ok-fill_begun-in-Ok.ensures.slot refl refl (refl, refl, refl))

pub returns-in-Err : goal.returns-in-Err
returns-in-Err c =
    let old = c.args.self.now in
    let wish = Begin c.args.slot c.args.domain c.args.mode in
    let call = BeginCall c.args.domain c.args.mode in
    let last = c.tokens_last.ensures in
    leaves_refused wish c.args.hub.now c.begin.new.self old call old (record { number = refl; replies = refl }) (λ tables read. refl) c.in-Err.fault c.refused_call.result c.in-Err.ensures.answer c.refused_call.ensures refl
    (λ made. sound_behind wish c.args.hub.now c.begin.new.self old call (last.begun, last.given, last.opened, last.called) refl _ made c.requires.sound)
