use Rattle.std.proofs.Common.{◌≡◌, [], take, not, nat_eq, filter}
use Rattle.sal_owner.specs.Slots.{clients_in}
use Rattle.sal_owner.proofs.candidates.first_but.Given as goal

abbrev pub invariant-loop-i : goal.invariant-loop-i
invariant-loop-i l = filter (λ c. not (nat_eq l.client c)) (clients_in (take l.i l.slots)) ≡ []
