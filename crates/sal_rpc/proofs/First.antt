-- The first request that waits.
use Rattle.std.proofs.Common.{◌≡◌, ℕ, zero, suc, ◌+◌, ◌≤◌, Bool, true, false, not, ◌&&◌, List, [], ◌∷◌, ◌++◌, Option, Some, None, refl, ap, sym, ◌∙◌, arith, if◌then◌else◌, nat_eq}
use Rattle.std.specs.Prelude.{slice_get}
use Rattle.std.specs.Option.{option_map_or}
use Rattle.sal_rpc.specs.declared.call.Request.{Request}
use Rattle.sal_rpc.specs.declared.call.RpcReply.TheVariants.{Handed, Nothing}
use Rattle.sal_rpc.specs.Laws.{HandedOnce, HandedToItsOwner}
use Rattle.sal_rpc.specs.Routing.{Made, Requested, handed, is_handed, is_request, queue, request_at, requests, waiting_from}

-- it passes the test
passes : (n : ℕ) (test : ℕ → Requested → Bool) (rs : List Requested) (w : ℕ × Requested) → slice_get (waiting_from n test rs) 0 ≡ Some w → test w.0 w.1 ≡ true
passes n test [] w e = cc
passes n test (r ∷ rs) w e =
    elim (test n r) as (λ b. test n r ≡ b → slice_get ((if b then (n, r) ∷ [] else []) ++ waiting_from (n + 1) test rs) 0 ≡ Some w → test w.0 w.1 ≡ true) [
      | true ↦ λ yes h. let x : ℕ × Requested = (n, r) in let same : x ≡ w = cc in ap (λ (z : ℕ × Requested). test z.0 z.1) (sym same) ∙ yes
      | false ↦ λ _ h. passes (n + 1) test rs w h
    ] refl e

-- it is at its number
stands : (n : ℕ) (test : ℕ → Requested → Bool) (rs : List Requested) (w : ℕ × Requested) → slice_get (waiting_from n test rs) 0 ≡ Some w → (k : ℕ) × (w.0 ≡ n + k) × (slice_get rs k ≡ Some w.1)
stands n test [] w e = cc
stands n test (r ∷ rs) w e =
    elim (test n r) as (λ b. slice_get ((if b then (n, r) ∷ [] else []) ++ waiting_from (n + 1) test rs) 0 ≡ Some w → (k : ℕ) × (w.0 ≡ n + k) × (slice_get (r ∷ rs) k ≡ Some w.1)) [
      | true ↦ λ h. let x : ℕ × Requested = (n, r) in let same : x ≡ w = cc in let number : n ≡ w.0 = ap (λ (z : ℕ × Requested). z.0) same in (0, omega (arith, number), ap (λ (z : ℕ × Requested). Some z.1) same)
      | false ↦ λ h. let later = stands (n + 1) test rs w h in let number : w.0 ≡ (n + 1) + later.0 = later.1 in (suc later.0, omega (arith, number), later.2)
    ] e

from-handed : (o : Option (ℕ × Requested)) (request : Request) → handed o ≡ Handed request → (w : ℕ × Requested) × (o ≡ Some w) × (w.0 ≡ request.id)
from-handed None request e = cc
from-handed (Some w) request e = let x : Request = record { id = w.0; rpc = w.1.rpc; context = w.1.context; input = w.1.input } in let same : x ≡ request = cc in (w, refl, ap (λ (z : Request). z.id) same)

split : (a b : Bool) → (a && not b) ≡ true → (a ≡ true) × (b ≡ false)
split true false e = (refl, refl)
split true true e = cc
split false b e = cc

pub handed-once : HandedOnce
handed-once made client request e =
    let found = from-handed (slice_get (queue made client) 0) request e in
    let w : ℕ × Requested = found.0 in
    ap (is_handed made) (sym found.2) ∙ (split (nat_eq w.1.owner client) (is_handed made w.0) (passes 1 (λ id r. nat_eq r.owner client && not (is_handed made id)) (requests made) w found.1)).1

pub handed-to-owner : HandedToItsOwner
handed-to-owner made client request e =
    let found = from-handed (slice_get (queue made client) 0) request e in
    let w : ℕ × Requested = found.0 in
    let test : ℕ → Requested → Bool = λ id r. nat_eq r.owner client && not (is_handed made id) in
    let at = stands 1 test (requests made) w found.1 in
    let number : w.0 ≡ 1 + at.0 = at.1 in
    let id : request.id ≡ suc at.0 = let e : w.0 ≡ request.id = found.2 in omega (arith, e, number) in
    ap (λ k. option_map_or (λ (r : Requested). nat_eq r.owner client) (request_at (requests made) k) false) id
    ∙ ap (λ o. option_map_or (λ (r : Requested). nat_eq r.owner client) o false) at.2
    ∙ (split (nat_eq w.1.owner client) (is_handed made w.0) (passes 1 test (requests made) w found.1)).0
