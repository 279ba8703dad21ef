use Rattle.std.proofs.Common.{◌≡◌, None, Some, ◌++◌, sym, ap, ◌∙◌}
use Rattle.sal_owner.specs.Slots.{but, in_slot}
use Rattle.sal_owner.proofs.InSlots.{other-is, take-but, who}
use Rattle.sal_owner.proofs.candidates.first_but.Goals as goal

pub returns-in-Some : goal.returns-in-Some
returns-in-Some c =
    let there : but c.args.client (in_slot c.args.slots.now c.loop-i.i) ≡ Some c.in-Some.other = sym (c.but.ensures ∙ ap (but c.args.client) c.in_slot.ensures) ∙ c.in-Some.is in
    sym (other-is c.args.slots.now c.args.client c.loop-i.i c.in-Some.other there c.loop-i.invariant)

pub loop-i-preserved : goal.loop-i-preserved
loop-i-preserved c =
    let none : but c.args.client (in_slot c.args.slots.now c.loop-i.i) ≡ None = sym (c.but.ensures ∙ ap (but c.args.client) c.in_slot.ensures) ∙ c.in_default.is in
    take-but c.args.slots.now c.args.client c.loop-i.i ∙ (λ j. c.loop-i.invariant j ++ who (none j))
