use Rattle.std.proofs.Common.{◌≡◌, drop}
use Rattle.sal_client.specs.Slots.{held_in}
use Rattle.sal_client.proofs.slots.look_at.Given as goal

abbrev pub invariant-loop-it : goal.invariant-loop-it
invariant-loop-it g l = held_in (drop l.it-index l.slots.items) l.slot ≡ held_in l.slots.items l.slot
