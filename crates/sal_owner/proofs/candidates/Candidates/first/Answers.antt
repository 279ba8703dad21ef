use Rattle.std.proofs.Common.{List, ℕ, Option, ap, ◌∙◌, slice_get}
use Rattle.sal_owner.specs.Slots.{in_slot}
use Rattle.sal_owner.proofs.InSlots.{leads}
use Rattle.sal_owner.proofs.candidates.Candidates.first.Goals as goal

pub returns : goal.returns
returns c =
    c.in_slot.ensures ∙ ap (λ (ss : List (Option ℕ)). in_slot ss c.self.inside.first) c.deref.ensures.value
    ∙ leads c.self.inside.slots.items c.self.inside.places.entries c.self.inside.first c.self.invariant ∙ ap (λ (l : List ℕ). slice_get l 0) c.self.view_is
