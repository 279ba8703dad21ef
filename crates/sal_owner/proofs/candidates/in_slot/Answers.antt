use Rattle.std.proofs.Common.{rules, ◌<◌, ◌≤◌, length, None, sym}
use Rattle.sal_owner.proofs.InSlots.{slot-is, slot-past}
use Rattle.sal_owner.proofs.candidates.in_slot.Goals as goal

pub returns-then-i-slots : goal.returns-then-i-slots
returns-then-i-slots c = let within : c.args.i < length c.args.slots.now = search rules in slot-is c.args.slots.now c.args.i None within

pub returns-else-i-slots : goal.returns-else-i-slots
returns-else-i-slots c = let past : length c.args.slots.now ≤ c.args.i = search rules in sym (slot-past c.args.slots.now c.args.i past)
