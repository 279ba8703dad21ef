-- A call subscribes one client at most.
use Rattle.std.proofs.Common.{◌≡◌, ℕ, ◌+◌, ◌≤◌, true, false, List, [], ◌∷◌, ◌++◌, length, arith, subst, nat_eq, length-append}
use Rattle.std.specs.Prelude.{if◌then◌else◌}
use Rattle.std.specs.List.{fold}
use Rattle.sal_note.specs.declared.call.NoteCall.{NoteCall}
use Rattle.sal_note.specs.declared.call.NoteCall.TheVariants.{Subscribe, Offer, TakeNotes}
use Rattle.sal_note.specs.Laws.{SubscribersAreCallers}
use Rattle.sal_note.specs.Queues.{Asked, Made, made_of, make, subscribes, subscribers, with_client}
use Rattle.sal_note.proofs.Ascending.{length-with}

one-more : (note : ℕ) (cs : List ℕ) (client : ℕ) (call : NoteCall) → length (fold (λ ds c. with_client c ds) cs (subscribes note client call)) ≤ length cs + 1
one-more note cs client (Subscribe n) =
    elim (nat_eq n note) as (λ b. length (fold (λ ds c. with_client c ds) cs (if b then client ∷ [] else [])) ≤ length cs + 1) [
      | true ↦ length-with client cs
      | false ↦ omega arith
    ]
one-more note cs client (Offer n rows) = omega arith
one-more note cs client TakeNotes = omega arith

no-more : (note : ℕ) (cs : List ℕ) (made : List Made) → length (fold (λ ds (m : Made). fold (λ es c. with_client c es) ds (subscribes note m.client m.call)) cs made) ≤ length cs + length made
no-more note cs [] = omega arith
no-more note cs (m ∷ made) =
    let first = one-more note cs m.client m.call in
    let rest = no-more note (fold (λ es c. with_client c es) cs (subscribes note m.client m.call)) made in
    omega (arith, first, rest)

each-once : (made : List Made) (calls : List Asked) → length (fold make made calls) ≡ length made + length calls
each-once made [] = omega arith
each-once made (call ∷ calls) =
    let rest = each-once (make made call) calls in
    let one : length (make made call) ≡ length made + 1 = length-append made _ in
    omega (arith, rest, one)

pub subscribers-are-callers : SubscribersAreCallers
subscribers-are-callers calls note =
    let most = no-more note [] (made_of calls) in
    let all = each-once [] calls in
    omega (arith, most, all)
