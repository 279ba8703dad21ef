use Rattle.std.proofs.Common.{◌≡◌, [], take}
use Rattle.sal_owner.specs.Slots.{clients_in}
use Rattle.sal_owner.proofs.candidates.next_taken.Given as goal

abbrev pub invariant-loop-i : goal.invariant-loop-i
invariant-loop-i l = clients_in (take l.i l.slots) ≡ []
