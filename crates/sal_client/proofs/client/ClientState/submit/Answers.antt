-- The transaction's slot is empty, and its receipt is in the receipt slot; or it was refused, and is there as before.
use Rattle.std.proofs.Common.{◌≡◌, ◌∙◌, Some, ap, refl, sym}
use Rattle.std.specs.Option.{option_map}
use Rattle.sal_history.specs.declared.call.Call.TheVariants.{Submit as SubmitCall}
use Rattle.sal_history.specs.declared.reply.Reply.TheVariants.{Receipt}
use Rattle.sal_script.specs.Play.{set_slot}
use Rattle.sal_tx.specs.declared.writing.Writing.{Writing}
use Rattle.sal_script.specs.declared.reply.StepReply.TheVariants.{Called}
use Rattle.sal_tx.specs.declared.tx.Tx.{Tx}
use Rattle.sal_tx.specs.declared.tx.Tx.TheVariants.{Write}
use Rattle.sal_client.specs.declared.wish.Wish.TheVariants.{Submit}
use Rattle.sal_client.specs.Slots.{held}
use Rattle.sal_client.specs.Clients.{client_of, number_of, open_of, opened}
use Rattle.sal_client.proofs.Places.{put_back, seen-emptied, seen-filled}
use Rattle.sal_client.proofs.Soundness.{IsSound-same, IsSound-submitted}
use Rattle.sal_client.proofs.Answering.{submit-writable}
use Rattle.sal_client.proofs.Leaving.{leaves_made, leaves_refused, sound_behind}
use Rattle.sal_client.proofs.client.ClientState.submit.Goals as goal

pub returns-in_ok-fill_slot-in-Ok : goal.returns-in_ok-fill_slot-in-Ok
returns-in_ok-fill_slot-in-Ok c =
    let old = c.args.self.now in
    let known = c.args.hub.now in
    let tx = c.in-Some-Write.tx in
    let call = SubmitCall tx.begun.place tx.changes in
    let made = c.in-Ok.ensures.answer in
    let last = c.tokens_last.ensures in
    let found : opened old c.args.slot ≡ Some (open_of (Write tx)) = ap (option_map open_of) (sym c.in-Some-Write.ensures.value) ∙ ap (λ (t : Tx). Some (open_of t)) c.in-Some-Write.field-0-is in
    let emptied = seen-emptied open_of (held old.transactions) (held c.take_slot.new.slots) c.args.slot c.take_slot.ensures.after in
    let filled = seen-filled number_of (held old.receipts) (held c.fill_slot.new.slots) c.args.slot c.in-Ok.receipt c.in_ok-fill_slot-in-Ok.ensures in
    let was = sound_behind (Submit c.args.slot) known c.submit.new.self old call (last.begun, last.given, last.opened, last.called) refl _ made c.requires.sound in
    leaves_made (Submit c.args.slot) known c.submit.new.self old call _ (record { number = refl; replies = refl }) (λ tables read. submit-writable (client_of old) (opened old c.args.slot) (open_of (Write tx)) found c.requires.writable) _ c.called.result made
    (c.called.ensures ∙ ap (λ n. Called (Receipt n)) c.number-number.ensures) (λ i. record (client_of old) { transactions = emptied i; receipts = filled i })
    (IsSound-submitted c.submit.new.self old _ c.args.slot c.in-Ok.receipt was c.in-Ok.ensures.given c.take_slot.ensures.after c.in_ok-fill_slot-in-Ok.ensures refl (refl, refl, refl))

-- a transaction that was refused is put back
pub returns-in_ok-fill_slot-in-Err : goal.returns-in_ok-fill_slot-in-Err
returns-in_ok-fill_slot-in-Err c =
    let old = c.args.self.now in
    let known = c.args.hub.now in
    let tx = c.in-Some-Write.tx in
    let call = SubmitCall tx.begun.place tx.changes in
    let last = c.tokens_last.ensures in
    let holds : held old.transactions c.args.slot ≡ Some (Write tx) = sym c.in-Some-Write.ensures.value ∙ ap Some c.in-Some-Write.field-0-is in
    let found : opened old c.args.slot ≡ Some (open_of (Write tx)) = ap (option_map open_of) holds in
    let restored : held c.fill_slot-in-Err.new.slots ≡ held old.transactions =
    put_back (held old.transactions) (held c.take_slot.new.slots) (held c.fill_slot-in-Err.new.slots) c.args.slot (Write tx) holds c.take_slot.ensures.after
    (c.in_ok-fill_slot-in-Err.ensures ∙ ap (λ (w : Writing). set_slot c.args.slot (Some (Write w)) (held c.take_slot.new.slots)) c.in-Err.ensures.answer.0) in
    leaves_refused (Submit c.args.slot) known c.submit.new.self old call _ (record { number = refl; replies = refl }) (λ tables read. submit-writable (client_of old) (opened old c.args.slot) (open_of (Write tx)) found c.requires.writable)
    c.in-Err.fault c.refused_call.result c.in-Err.ensures.answer.1 c.refused_call.ensures (λ i. record (client_of old) { transactions = λ k. option_map open_of (restored i k) })
    (λ made. IsSound-same c.submit.new.self old _ (sound_behind (Submit c.args.slot) known c.submit.new.self old call (last.begun, last.given, last.opened, last.called) refl _ made c.requires.sound) restored refl refl (refl, refl, refl))
