use Rattle.std.proofs.Common.{List, ℕ, ap, ◌∙◌, nat_eq}
use Rattle.std.specs.List.{list_any}
use Rattle.sal_owner.proofs.InSlots.{has-is}
use Rattle.sal_owner.proofs.candidates.Candidates.has.Goals as goal

pub returns : goal.returns
returns c = c.contains_key.ensures ∙ has-is c.self.inside.slots.items c.self.inside.places.entries c.self.inside.first c.self.invariant c.args.client ∙ ap (λ (l : List ℕ). list_any (nat_eq c.args.client) l) c.self.view_is
