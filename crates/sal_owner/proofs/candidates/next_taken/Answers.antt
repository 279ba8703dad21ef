use Rattle.std.proofs.Common.{◌≡◌, None, ◌++◌, sym, ◌∙◌}
use Rattle.sal_owner.specs.Slots.{in_slot}
use Rattle.sal_owner.proofs.InSlots.{none-some, take-slot, who}
use Rattle.sal_owner.proofs.candidates.next_taken.Goals as goal

pub returns-in-Some-clause-ends : goal.returns-in-Some-clause-ends
returns-in-Some-clause-ends c = λ none. absurd (none-some (sym none ∙ sym c.in_slot.ensures ∙ c.in-Some.is))

pub loop-i-preserved : goal.loop-i-preserved
loop-i-preserved c =
    let none : in_slot c.args.slots.now c.loop-i.i ≡ None = sym c.in_slot.ensures ∙ c.in_default.is in
    take-slot c.args.slots.now c.loop-i.i ∙ (λ j. c.loop-i.invariant j ++ who (none j))
