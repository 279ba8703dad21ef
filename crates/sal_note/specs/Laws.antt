-- Laws for any calls before.
use Rattle.std.specs.Prelude.{◌≡◌, ℕ, ◌≤◌, List, length, [], ◌∷◌, ◌++◌, if◌then◌else◌, nat_eq}
use Rattle.std.specs.List.{list_any}
use Rattle.sal_types.specs.declared.row.Row.{Row}
use Rattle.sal_note.specs.declared.call.NoteCall.TheVariants.{Offer}
use Rattle.sal_note.specs.declared.call.NoteFault.{NoteFault}
use Rattle.sal_note.specs.declared.call.NoteReply.TheVariants.{Offered, Refused}
use Rattle.sal_note.specs.Queues.{Asked, Made, made_of, make, queue, reply_to, subscribers}

-- an accepted offer is added once, as the last one, to the queue of each subscriber, and to no other
abbrev pub OfferedToEach : Type 0
OfferedToEach = (made : List Made) (client note count : ℕ) (rows : List Row) → reply_to made client (Offer note rows) ≡ Offered count
    → (c : ℕ) → queue (make made (record { client = client; call = Offer note rows })) c ≡ queue made c ++ (if list_any (nat_eq c) (subscribers made note) then record { note = note; rows = rows } ∷ [] else [])

-- a refused one is added to no queue
abbrev pub RefusedToAll : Type 0
RefusedToAll = (made : List Made) (client note : ℕ) (rows : List Row) (fault : NoteFault) → reply_to made client (Offer note rows) ≡ Refused fault
    → (c : ℕ) → queue (make made (record { client = client; call = Offer note rows })) c ≡ queue made c

-- A notification has at most as many subscribers as there were calls.
abbrev pub SubscribersAreCallers : Type 0
SubscribersAreCallers = (calls : List Asked) (note : ℕ) → length (subscribers (made_of calls) note) ≤ length calls
