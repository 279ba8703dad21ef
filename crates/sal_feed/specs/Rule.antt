-- The rule of a feed's queue: one seat offers and one takes, and no notification is lost, repeated or reordered between them.
use Rattle.std.specs.Prelude.{◌≡◌, ℕ, Bool, true, List, [], ◌∷◌, ◌++◌}
use mathlib.Core.Option.{some}
use lib.ListN.{get_elem?}
use Rattle.sal_note.specs.declared.call.Note.{Note}
use Rattle.sal_feed.specs.declared.rule.Log.{Log}

abbrev pub log : Bool → Bool → List Note → List Note → Log
log may_offer may_take offered taken = record { offers = may_offer; takes = may_take; offered = offered; taken = taken }

-- what a seat knows after one more notification
abbrev pub with_offered : Log → Note → Log
with_offered v x = log v.offers v.takes (v.offered ++ x ∷ []) v.taken

abbrev pub with_taken : Log → Note → Log
with_taken v x = log v.offers v.takes v.offered (v.taken ++ x ∷ [])

-- what the seat of this number knows: it has the list offered if it may offer, and the list taken if it may take
pub record Knows (offerer taker : ℕ) (offered taken : List Note) (seat : ℕ) (v : Log) : Type 0 where
  pub offers : v.offers ≡ true → (seat ≡ offerer) × (v.offered ≡ offered)
  pub takes : v.takes ≡ true → (seat ≡ taker) × (v.taken ≡ taken)

-- the queue has the notifications that were offered after those taken, and the program's invariant holds of both lists
pub record Carries (holds : List Note → List Note → Type 0) (items : List Note) (views : List Log) : Type 0 where
  pub offerer : ℕ
  pub taker : ℕ
  pub offered : List Note
  pub taken : List Note
  pub whole : offered ≡ taken ++ items
  pub kept : holds offered taken
  pub known : (seat : ℕ) (v : Log) → get_elem? views seat ≡ some v → Knows offerer taker offered taken seat v

-- these notifications waited at a moment when `offered` were all that had been offered
abbrev pub Waits : (List Note → List Note → Type 0) → List Note → List Note → Type 0
Waits holds offered items = (taken : List Note) × (offered ≡ taken ++ items) × holds offered taken

-- these notifications waited at a moment when `taken` were all that had been taken
abbrev pub Follows : (List Note → List Note → Type 0) → List Note → List Note → Type 0
Follows holds taken items = (offered : List Note) × (offered ≡ taken ++ items) × holds offered taken

-- the notification was the first of the remaining ones
abbrev pub Leaves : Log → Note → Type 0
Leaves v x = (rest : List Note) × (v.offered ≡ v.taken ++ x ∷ rest)
