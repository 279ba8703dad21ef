-- A look into an empty slot, or into the transaction of the slot, which is there again with what it read.
use Rattle.std.proofs.Common.{◌≡◌, Some, refl, sym, subst}
use Rattle.sal_hub.specs.HubHistory.{HubHistory}
use Rattle.sal_client.specs.declared.client.ClientState.{ClientState}
use Rattle.sal_client.specs.Clients.{IsOfSchema, IsOwn, IsSteady, client_of, open_of}
use Rattle.sal_client.specs.Looks.{IsLooked, look_move}
use Rattle.sal_client.specs.Slots.{held}
use Rattle.sal_client.specs.Meeting.{Answers, IsAnswered}
use Rattle.sal_client.proofs.Faults.{if_ok}
use Rattle.sal_client.proofs.Looking.{IsOfSchema-looked, IsOwn-looked, looks_nowhere, stays_answered}
use Rattle.sal_client.proofs.Places.{changed, each_filled, seen-filled, took_nothing}
use Rattle.sal_client.proofs.Soundness.{IsSound-filled, IsSteady-filled}
use Rattle.sal_client.proofs.client.ClientState.look.Goals as goal

pub returns-in-None : goal.returns-in-None
returns-in-None c =
    let place = c.args.place in
    let old = c.args.self.now in
    let tables = c.args.readers.now in
    let step = look_move place.slot place.store place.text.now c.args.look in
    let empty = sym c.in-None.ensures.value in
    let same = took_nothing (held old.transactions) (held c.take_slot.new.slots) place.slot empty c.take_slot.ensures.after in
    stays_answered tables old step c.take_slot.new.slots same c.requires c.refused.result
    (subst (λ r. Answers tables old step r old) (sym c.refused.ensures) (looks_nowhere tables old place.slot place.store place.text.now c.args.look empty))

pub returns-in_ok-fill_slot-in-Some : goal.returns-in_ok-fill_slot-in-Some
returns-in_ok-fill_slot-in-Some c =
    let place = c.args.place in
    let old = c.args.self.now in
    let tables = c.args.readers.now in
    let step = look_move place.slot place.store place.text.now c.args.look in
    let taken = c.in-Some.taken in
    let tx = c.looked-reply.new.tx in
    let after : ClientState = record old { transactions = c.fill_slot.new.slots } in
    let there : held old.transactions place.slot ≡ Some taken = sym c.in-Some.ensures.value in
    let filled = changed (held old.transactions) (held c.take_slot.new.slots) (held c.fill_slot.new.slots) place.slot tx c.take_slot.ensures.after c.in_ok-fill_slot-in-Some.ensures in
    let seen = seen-filled open_of (held old.transactions) (held c.fill_slot.new.slots) place.slot tx filled in
    if_ok c.looked-reply.result (λ r. IsLooked tables place.slot place.store place.text.now c.args.look taken r tx) (λ r. IsAnswered tables old step r after) (λ r is.
    let own : (known : HubHistory) → IsSteady known old → IsOwn known tx =
    λ known steady. IsOwn-looked known place.store taken tx is.looked (steady.transactions place.slot taken there) in
    record {
      answers = is.shown old after there (λ i. record (client_of old) { transactions = seen i });
      sound = record {
        steady = λ known steady. IsSteady-filled known old after place.slot tx steady (own known steady) filled refl;
        sound = λ known sound. IsSound-filled known old after place.slot tx sound (own known sound.steady) filled refl refl (refl, refl, refl);
      };
      schema = each_filled (IsOfSchema tables) (held old.transactions) (held c.fill_slot.new.slots) place.slot tx filled (IsOfSchema-looked tables place.store taken tx is.looked (c.requires place.slot taken there)) c.requires;
      same = record { number = refl; replies = refl };
    }) c.looked-reply.ensures

pub looked-reply-requires : goal.looked-reply-requires
looked-reply-requires c = c.requires c.args.place.slot c.in-Some.taken (sym c.in-Some.ensures.value)
