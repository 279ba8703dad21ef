-- The listener was taken out, and is there with the batch.
use Rattle.std.proofs.Common.{◌≡◌, sym, ◌∙◌, subst}
use Rattle.std.proofs.lemmas.Option.{same_Some}
use Rattle.sal_client.specs.declared.follower.Follower.{Follower}
use Rattle.sal_client.specs.Followers.{Advances}
use Rattle.sal_client.specs.Slots.{held}
use Rattle.sal_client.proofs.Places.{changed, on_ok}
use Rattle.sal_client.proofs.listeners.advance_in.Goals as goal

pub returns : goal.returns
returns c =
    let slots = held c.args.listeners.now in
    let taken = c.in-Some.follower in
    let g = c.in_ok-follower-in-Some.follower in
    on_ok c.fill_slot.result
    (λ filled f found.
    let same : f ≡ taken = same_Some f taken (sym found ∙ sym c.in-Some.ensures.value) in (
      g,
      subst (λ (x : Follower). Advances c.args.batch.now x g) (sym same) c.in_ok-follower-in-Some.ensures,
      changed slots (held c.take_slot.new.slots) (held c.fill_slot.new.slots) c.args.slot g c.take_slot.ensures.after filled,
    ))
    c.fill_slot.ensures
