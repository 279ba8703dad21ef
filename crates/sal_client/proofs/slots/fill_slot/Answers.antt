use Rattle.std.proofs.Common.{◌≡◌, ℕ, ◌<◌, ◌≤◌, List, [], ◌∷◌, ◌++◌, length, set, Option, Some, arith, ap, sym, ◌∙◌}
use Rattle.sal_client.specs.Slots.{held_in, place_in}
use Rattle.sal_client.specs.declared.slots.Slot.{Slot}
use Rattle.sal_client.proofs.Held.{held-set, held-push}
use Rattle.sal_client.proofs.slots.fill_slot.Goals as goal

pub returns-then-place-len : goal.returns-then-place-len
returns-then-place-len g c =
    let slot = c.args.slot in
    let list = c.args.slots.now.items in
    let it : Slot g.row.T.Denot = record { number = slot; value = Some c.args.value } in
    let place : place_in list slot ≡ c.place_of-place.result = sym (c.place_of-place.ensures ∙ ap (λ l. place_in l slot) c.deref.ensures.value) in
    let below : place_in list slot < length list = omega arith in
    ap (λ n. held_in (set list n it)) (sym place) ∙ (λ i k. held-set list it below k i)

pub returns-in_ok-push : goal.returns-in_ok-push
returns-in_ok-push g c =
    let slot = c.args.slot in
    let list = c.args.slots.now.items in
    let it : Slot g.row.T.Denot = record { number = slot; value = Some c.args.value } in
    let place : place_in list slot ≡ c.place_of-place.result = sym (c.place_of-place.ensures ∙ ap (λ l. place_in l slot) c.deref.ensures.value) in
    let past : length list ≤ place_in list slot = omega arith in
    ap held_in c.in_ok-push.ensures.items ∙ (λ i k. held-push list it past k i)
