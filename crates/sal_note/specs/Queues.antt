-- The subscribers, and the queue of each client, by the calls (`DOMNotificationService`, `DOMNotificationPublishService` of the
-- MD-SAL developer guide).
use Rattle.std.specs.Prelude.{ℕ, Bool, true, false, ◌&&◌, List, [], ◌∷◌, ◌++◌, length, Option, Some, None, if◌then◌else◌, nat_eq, nat_le, nat_lt, slice_get}
use Rattle.std.specs.List.{filter, fold, list_any}
use Rattle.sal_note.specs.declared.call.NoteCall.{NoteCall}
use Rattle.sal_note.specs.declared.call.NoteCall.TheVariants.{Subscribe, Offer, TakeNotes}
use Rattle.sal_note.specs.declared.call.NoteFault.TheVariants.{NoteRejected}
use Rattle.sal_note.specs.declared.call.NoteReply.{NoteReply}
use Rattle.sal_note.specs.declared.call.NoteReply.TheVariants.{Accepted, Offered, Notes, Refused}
use Rattle.sal_note.specs.declared.call.Note.{Note}

-- a call of a client
pub record Asked : Type 0 where
  pub client : ℕ
  pub call : NoteCall

-- a call with its reply, and the clients that were subscribed to the notification that it offered
pub record Made : Type 0 where
  pub client : ℕ
  pub call : NoteCall
  pub reply : NoteReply
  pub subscribed : List ℕ

-- ---- subscribers

-- the client, if the call subscribes it to the notification
abbrev pub subscribes : ℕ → ℕ → NoteCall → List ℕ
subscribes note client (Subscribe n) = if nat_eq n note then client ∷ [] else []
subscribes note client call = []

-- ascending clients with one more, each once
abbrev pub with_client : ℕ → List ℕ → List ℕ
with_client c [] = c ∷ []
with_client c (d ∷ ds) = if nat_lt c d then c ∷ d ∷ ds else (if nat_eq c d then d ∷ ds else d ∷ with_client c ds)

-- the clients that are subscribed to the notification, ascending; a client that subscribes twice counts once
abbrev pub subscribers : List Made → ℕ → List ℕ
subscribers made note = fold (λ cs m. fold (λ ds c. with_client c ds) cs (subscribes note m.client m.call)) [] made

-- ---- queues

-- the notification that a call with this reply brought to the client, of those that were subscribed
abbrev pub brings : ℕ → NoteCall → NoteReply → List ℕ → List Note
brings client (Offer note rows) (Offered count) clients = if list_any (nat_eq client) clients then record { note = note; rows = rows } ∷ [] else []
brings client call reply clients = []

-- the call of the client takes all that waits
abbrev pub takes : NoteCall → Bool
takes TakeNotes = true
takes call = false

-- The queue of the client: the notifications that were offered while it was subscribed, in order, since its last take.
abbrev pub queue : List Made → ℕ → List Note
queue made client = fold (λ notes m. if takes m.call && nat_eq m.client client then [] else notes ++ brings client m.call m.reply m.subscribed) [] made

abbrev pub is_full : List Made → ℕ → Bool
is_full made client = nat_le 64 (length (queue made client))

-- ---- replies

-- refused by the first of these whose queue is full, if there is one, else given to all
abbrev pub given_or_refused : List ℕ → Option ℕ → NoteReply
given_or_refused clients None = Offered (length clients)
given_or_refused clients (Some client) = Refused (NoteRejected client)

abbrev pub offered : List Made → List ℕ → NoteReply
offered made clients = given_or_refused clients (slice_get (filter (is_full made) clients) 0)

-- the reply to a call of the client after these
abbrev pub reply_to : List Made → ℕ → NoteCall → NoteReply
reply_to made client (Subscribe note) = Accepted
reply_to made client (Offer note rows) = offered made (subscribers made note)
reply_to made client TakeNotes = Notes (queue made client)

-- the reply hands notifications over
abbrev pub gives : NoteReply → Bool
gives Accepted = false
gives (Offered count) = false
gives (Notes list) = nat_lt 0 (length list)
gives (Refused fault) = false

-- the subscribers of what a call offers
abbrev pub subscribed_to : List Made → NoteCall → List ℕ
subscribed_to made (Offer note rows) = subscribers made note
subscribed_to made call = []

-- one call more, with its reply
abbrev pub make : List Made → Asked → List Made
make made a = made ++ record { client = a.client; call = a.call; reply = reply_to made a.client a.call; subscribed = subscribed_to made a.call } ∷ []

-- calls, each with its reply
abbrev pub made_of : List Asked → List Made
made_of calls = fold make [] calls
