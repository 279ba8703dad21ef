-- The transaction's slot is empty; or it was refused, and is there as before.
use Rattle.std.proofs.Common.{◌≡◌, ◌∙◌, Some, ap, refl, sym}
use Rattle.std.specs.Option.{option_map}
use Rattle.sal_history.specs.declared.call.Call.TheVariants.{Cancel as CancelCall}
use Rattle.sal_script.specs.Play.{set_slot}
use Rattle.sal_hub.specs.Tokens.{begun_of}
use Rattle.sal_tx.specs.declared.tx.Tx.{Tx}
use Rattle.sal_client.specs.declared.wish.Wish.TheVariants.{Cancel}
use Rattle.sal_client.specs.Slots.{held}
use Rattle.sal_client.specs.Clients.{client_of, open_of, opened}
use Rattle.sal_client.proofs.Places.{put_back, seen-emptied}
use Rattle.sal_client.proofs.Soundness.{IsSound-emptied, IsSound-same}
use Rattle.sal_client.proofs.Answering.{cancel-filled}
use Rattle.sal_client.proofs.Leaving.{leaves_made, leaves_refused, sound_behind}
use Rattle.sal_client.proofs.client.ClientState.cancel.Goals as goal

pub returns-in-Ok : goal.returns-in-Ok
returns-in-Ok c =
    let old = c.args.self.now in
    let known = c.args.hub.now in
    let tx = c.in-Some.tx in
    let call = CancelCall (begun_of tx).place in
    let made = c.in-Ok.ensures.answer in
    let last = c.tokens_last.ensures in
    let found : opened old c.args.slot ≡ Some (open_of tx) = ap (option_map open_of) (sym c.in-Some.ensures.value) in
    let emptied = seen-emptied open_of (held old.transactions) (held c.take_slot.new.slots) c.args.slot c.take_slot.ensures.after in
    let was = sound_behind (Cancel c.args.slot) known c.cancel.new.self old call (last.begun, last.given, last.opened, last.called) refl _ made c.requires.sound in
    leaves_made (Cancel c.args.slot) known c.cancel.new.self old call _ (record { number = refl; replies = refl }) (λ tables read. cancel-filled (client_of old) (opened old c.args.slot) (open_of tx) found) _ c.called.result made
    c.called.ensures (λ i. record (client_of old) { transactions = emptied i }) (IsSound-emptied c.cancel.new.self old _ c.args.slot was c.take_slot.ensures.after refl refl (refl, refl, refl))

-- a transaction that was refused is put back
pub returns-in_ok-fill_slot-in-Err : goal.returns-in_ok-fill_slot-in-Err
returns-in_ok-fill_slot-in-Err c =
    let old = c.args.self.now in
    let known = c.args.hub.now in
    let tx = c.in-Some.tx in
    let call = CancelCall (begun_of tx).place in
    let last = c.tokens_last.ensures in
    let holds : held old.transactions c.args.slot ≡ Some tx = sym c.in-Some.ensures.value in
    let found : opened old c.args.slot ≡ Some (open_of tx) = ap (option_map open_of) holds in
    let restored : held c.fill_slot.new.slots ≡ held old.transactions =
    put_back (held old.transactions) (held c.take_slot.new.slots) (held c.fill_slot.new.slots) c.args.slot tx holds c.take_slot.ensures.after
    (c.in_ok-fill_slot-in-Err.ensures ∙ ap (λ (t : Tx). set_slot c.args.slot (Some t) (held c.take_slot.new.slots)) c.in-Err.ensures.answer.0) in
    leaves_refused (Cancel c.args.slot) known c.cancel.new.self old call _ (record { number = refl; replies = refl }) (λ tables read. cancel-filled (client_of old) (opened old c.args.slot) (open_of tx) found)
    c.in-Err.fault c.refused_call.result c.in-Err.ensures.answer.1 c.refused_call.ensures (λ i. record (client_of old) { transactions = λ k. option_map open_of (restored i k) })
    (λ made. IsSound-same c.cancel.new.self old _ (sound_behind (Cancel c.args.slot) known c.cancel.new.self old call (last.begun, last.given, last.opened, last.called) refl _ made c.requires.sound) restored refl refl (refl, refl, refl))
