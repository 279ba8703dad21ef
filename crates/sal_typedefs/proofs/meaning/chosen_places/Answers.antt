use Rattle.std.proofs.Common.{◌≡◌, List, ℕ, subst}
use Rattle.std.specs.Prelude.{IfOk}
use Rattle.sal_typedefs.proofs.Listings.{places-same}
use Rattle.sal_typedefs.proofs.meaning.chosen_places.Goals as goal

pub returns : goal.returns
returns c =
    let a = c.args in
    subst (λ (z : List ℕ). IfOk c.places_by.result (λ (it : List ℕ). it ≡ z)) (places-same a.names.now a.places.now c.in_ok-firsts.firsts c.in_ok-firsts.ensures a.entries.now) c.places_by.ensures
