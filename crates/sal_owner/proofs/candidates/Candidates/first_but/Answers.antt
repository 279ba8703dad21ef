use Rattle.std.proofs.Common.{◌≤◌, List, ℕ, Option, length, sym, subst}
use Rattle.sal_owner.proofs.InSlots.{first-within}
use Rattle.sal_owner.proofs.candidates.Candidates.first_but.Goals as goal

pub first_but-requires-clause-within : goal.first_but-requires-clause-within
first_but-requires-clause-within c =
    subst (λ (ss : List (Option ℕ)). c.self.inside.first ≤ length ss) (sym c.deref.ensures.value) (first-within c.self.inside.slots.items c.self.inside.places.entries c.self.inside.first c.self.invariant)
