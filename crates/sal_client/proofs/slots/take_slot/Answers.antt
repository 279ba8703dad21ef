use Rattle.std.proofs.Common.{◌≡◌, ℕ, ◌<◌, ◌≤◌, length, set, get_or, Option, None, arith, ap, sym, subst, ◌∙◌}
use Rattle.sal_script.specs.Play.{set_slot}
use Rattle.sal_client.specs.Slots.{held_in, place_in}
use Rattle.sal_client.specs.declared.slots.Slot.{Slot}
use Rattle.sal_client.proofs.Held.{number-at, held-at, held-none, held-set, emptied-same}
use Rattle.sal_client.proofs.slots.take_slot.Goals as goal

pub returns-then-place-len-clause-value : goal.returns-then-place-len-clause-value
returns-then-place-len-clause-value g c =
    let slot = c.args.slot in
    let list = c.args.slots.now.items in
    let it = c.index_mut.result.now in
    let place : place_in list slot ≡ c.place_of-place.result = sym (c.place_of-place.ensures ∙ ap (λ l. place_in l slot) c.deref.ensures.value) in
    let below : place_in list slot < length list = omega arith in
    c.take.ensures.value ∙ ap (λ (s : Slot g.row.T.Denot). s.value) (c.index_mut.ensures.value ∙ ap (λ n. get_or list n it) (sym place)) ∙ sym (held-at list slot it below)

pub returns-then-place-len-clause-after : goal.returns-then-place-len-clause-after
returns-then-place-len-clause-after g c =
    let slot = c.args.slot in
    let list = c.args.slots.now.items in
    let it = c.index_mut.result.now in
    let place : place_in list slot ≡ c.place_of-place.result = sym (c.place_of-place.ensures ∙ ap (λ l. place_in l slot) c.deref.ensures.value) in
    let below : place_in list slot < length list = omega arith in
    let number : it.number ≡ slot = ap (λ (s : Slot g.row.T.Denot). s.number) (c.index_mut.ensures.value ∙ ap (λ n. get_or list n it) (sym place)) ∙ number-at list slot it below in
    let put : Slot g.row.T.Denot = record { number = slot; value = c.take.new.self } in
    (λ i. held_in (set list (sym place i) (record { number = number i; value = c.take.new.self }))) ∙ (λ i k. held-set list put below k i) ∙ ap (λ v. set_slot slot v (held_in list)) c.take.ensures.after

pub returns-else-place-len-clause-value : goal.returns-else-place-len-clause-value
returns-else-place-len-clause-value g c =
    let slot = c.args.slot in
    let list = c.args.slots.now.items in
    let place : place_in list slot ≡ c.place_of-place.result = sym (c.place_of-place.ensures ∙ ap (λ l. place_in l slot) c.deref.ensures.value) in
    sym (held-none list slot (let past : length list ≤ place_in list slot = omega arith in past))

pub returns-else-place-len-clause-after : goal.returns-else-place-len-clause-after
returns-else-place-len-clause-after g c =
    let slot = c.args.slot in
    let list = c.args.slots.now.items in
    let place : place_in list slot ≡ c.place_of-place.result = sym (c.place_of-place.ensures ∙ ap (λ l. place_in l slot) c.deref.ensures.value) in
    emptied-same (held_in list) slot (held-none list slot (let past : length list ≤ place_in list slot = omega arith in past))
