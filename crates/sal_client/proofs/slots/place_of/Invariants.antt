use Rattle.std.proofs.Common.{◌≡◌, ◌+◌, drop}
use Rattle.sal_client.specs.Slots.{place_in}
use Rattle.sal_client.proofs.slots.place_of.Given as goal

abbrev pub invariant-loop-place : goal.invariant-loop-place
invariant-loop-place g l = l.place + place_in (drop l.place l.slots) l.slot ≡ place_in l.slots l.slot
