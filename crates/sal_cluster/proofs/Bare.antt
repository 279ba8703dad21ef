-- A script without clients and order, and its versions.
use Rattle.std.proofs.Common.{◌≡◌, ℕ, List, [], ◌∷◌, Result, Ok, Err, refl, ap, sym, ◌∙◌, subst}
use Rattle.std.specs.Prelude.{codes}
use Rattle.sal_types.specs.Reading.{◌>>=◌}
use Rattle.sal_script.specs.Moves.{Move}
use Rattle.sal_prepare.specs.Resumed.{Ground, ground}
use Rattle.sal_prepare.specs.Scripted.{Comes, IsStatusOf}
use Rattle.sal_prepare.specs.declared.status.Status.{Status}
use Rattle.sal_prepare.specs.declared.status.Status.TheVariants.{BadScript, NoMemory}
use Rattle.sal_prepare.proofs.Each.{bind_fault}
use Rattle.sal_embed.specs.Opening.{HasNone, IsBadAt, without}
use Rattle.sal_cluster.specs.StandBys.{bare, grounded}

-- the first member that a script may not have is the status
bad_first : {X A : Type 0} (place : List ℕ) (xs : List X) (status : Status) → (xs ≡ [] → ⊥) → IsBadAt place status → (made : Result A Status) → IsStatusOf (without place xs made) status
bad_first place [] status some bad made = absurd (some refl)
bad_first place (x ∷ xs) NoMemory some bad made = tt
bad_first place (x ∷ xs) (BadScript named) some bad made = ap (λ (p : List ℕ). Err (BadScript p)) (sym bad)
bad_first place (x ∷ xs) status some bad made = absurd bad

module _ (it : Ground) where
  -- a script with clients is refused
  pub clients_bad : (status : Status) → (it.parts.clients ≡ [] → ⊥) → IsBadAt (codes "clients") status → IsStatusOf (bare it) status
  clients_bad status some bad = bad_first (codes "clients") it.parts.clients status some bad (without (codes "order") it.parts.order (Ok it))

  -- so is one without, with an order
  order_bad : (status : Status) → it.parts.clients ≡ [] → (it.parts.order ≡ [] → ⊥) → IsBadAt (codes "order") status → IsStatusOf (bare it) status
  order_bad status none some bad =
      subst (λ (xs : List (List Move)). IsStatusOf (without (codes "clients") xs (without (codes "order") it.parts.order (Ok it))) status) (sym none)
      (bad_first {A = Ground} (codes "order") it.parts.order status some bad (Ok it))

  is_bare : it.parts.clients ≡ [] → it.parts.order ≡ [] → bare it ≡ Ok it
  is_bare clients order =
      ap (λ (xs : List (List Move)). without (codes "clients") xs (without (codes "order") it.parts.order (Ok it))) clients
      ∙ ap (λ (xs : List ℕ). let made : Result Ground Status = without (codes "order") xs (Ok it) in made) order

  pub by_order : {X : Type 0} (result : Result X Status) → it.parts.clients ≡ [] → HasNone (codes "order") it.parts.order result → Comes (λ (done : X). it) (bare it) result
  by_order (Ok done) none none_too = is_bare none none_too
  by_order (Err status) none bad = order_bad status none bad.0 bad.1

module _ (bytes : List ℕ) where
  pub ground_bad : (status : Status) → IsStatusOf (ground bytes) status → IsStatusOf (grounded bytes) status
  ground_bad status is = bind_fault (ground bytes) bare status is

  pub bare_bad : (it : Ground) (status : Status) → ground bytes ≡ Ok it → IsStatusOf (bare it) status → IsStatusOf (grounded bytes) status
  bare_bad it status made is = subst (λ (r : Result Ground Status). IsStatusOf (r >>= bare) status) (sym made) is

  pub both : (it : Ground) → ground bytes ≡ Ok it → bare it ≡ Ok it → grounded bytes ≡ Ok it
  both it made is = ap (λ (r : Result Ground Status). r >>= bare) made ∙ is
