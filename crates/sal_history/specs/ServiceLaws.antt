-- Laws of services for a whole log: to which client a request is handed out, which answer is collected, and what a subscriber takes.
use Rattle.std.specs.Prelude.{◌≡◌, ◌⊎◌, ℕ, ◌<◌, List, [], ◌++◌, take, Some, if◌then◌else◌, nat_eq, slice_get}
use Rattle.std.specs.List.{flat_map}
use Rattle.sal_types.specs.declared.row.Row.{Row}
use Rattle.sal_rows.specs.declared.outcome.CallFault.TheVariants.{NoCall}
use Rattle.sal_rpc.specs.declared.call.Request.{Request}
use Rattle.sal_rpc.specs.Routing.{owner_of}
use Rattle.sal_note.specs.declared.call.Note.{Note}
use Rattle.sal_note.specs.Queues as queues
use Rattle.sal_history.specs.declared.call.Call.{Call}
use Rattle.sal_history.specs.declared.call.Call.TheVariants.{Answer, Collect, Invoke, NextCall, TakeNotes}
use Rattle.sal_history.specs.declared.call.Entry.{Entry}
use Rattle.sal_history.specs.declared.reply.Reply.{Reply}
use Rattle.sal_history.specs.declared.reply.Reply.TheVariants as said
use Rattle.sal_history.specs.Services.{noted, routed}
use Rattle.sal_history.specs.World.{Domain}
use Rattle.sal_history.specs.History.{Answered, history}

-- ---- requests

-- A request that an entry hands out was made by an entry before it, with this RPC, this context and this input. It is handed to
-- the client whose registration that entry found, for this exact context or else without one.
abbrev pub HandedToItsProvider : Type 0
HandedToItsProvider =
    (world : List Domain) (log : List Entry) (i : ℕ) (a : Answered) (r : Request)
    → slice_get (history world log) i ≡ Some a → a.entry.call ≡ NextCall → a.reply ≡ said.Request r
    → (j : ℕ) × (b : Answered) × (j < i) × (slice_get (history world log) j ≡ Some b) × (b.entry.call ≡ Invoke r.rpc r.context r.input) × (b.reply ≡ said.CallMade r.id)
    × (owner_of (routed (take j (history world log))) r.rpc r.context ≡ Some a.entry.client)

-- Two entries that hand out the request of one id are one entry.
abbrev pub HandedOnceInALog : Type 0
HandedOnceInALog =
    (world : List Domain) (log : List Entry) (i j : ℕ) (a b : Answered) (r q : Request)
    → slice_get (history world log) i ≡ Some a → a.entry.call ≡ NextCall → a.reply ≡ said.Request r
    → slice_get (history world log) j ≡ Some b → b.entry.call ≡ NextCall → b.reply ≡ said.Request q
    → r.id ≡ q.id → i ≡ j

-- ---- answers

-- The rows that are collected for a request are those of an earlier accepted answer to it.
abbrev pub CollectedAsGiven : Type 0
CollectedAsGiven =
    (world : List Domain) (log : List Entry) (i id : ℕ) (a : Answered) (rpc : ℕ) (rows : List Row)
    → slice_get (history world log) i ≡ Some a → a.entry.call ≡ Collect id → a.reply ≡ said.Output rpc rows
    → (j : ℕ) × (b : Answered) × (j < i) × (slice_get (history world log) j ≡ Some b) × (b.entry.call ≡ Answer id rows) × (b.reply ≡ said.Accepted)

-- After such an answer each collection of the request returns its rows, except to clients that did not make the request.
abbrev pub AnswersAreCollected : Type 0
AnswersAreCollected =
    (world : List Domain) (log : List Entry) (i j id : ℕ) (a b : Answered) (rows : List Row)
    → slice_get (history world log) j ≡ Some b → b.entry.call ≡ Answer id rows → b.reply ≡ said.Accepted
    → j < i → slice_get (history world log) i ≡ Some a → a.entry.call ≡ Collect id
    → (a.reply ≡ said.Refused (NoCall id)) ⊎ ((rpc : ℕ) × (a.reply ≡ said.Output rpc rows))

-- ---- notifications

-- the notifications that a call takes
abbrev pub given : Call → Reply → List Note
given TakeNotes (said.Notes list) = list
given call reply = []

-- the notifications that the client took
abbrev pub taken_by : ℕ → Answered → List Note
taken_by client a = if nat_eq a.entry.client client then given a.entry.call a.reply else []

-- the notifications that were offered and not refused while the client was subscribed, in order
abbrev pub offered_to : ℕ → List Answered → List Note
offered_to client answered = flat_map (λ m. queues.brings client m.call m.reply m.subscribed) (noted answered)

-- The notifications that a client took, then those that wait for it, are those that were offered while it was subscribed: each once, and in order.
abbrev pub TakenOnceInOrder : Type 0
TakenOnceInOrder =
    (world : List Domain) (log : List Entry) (client : ℕ)
    → flat_map (taken_by client) (history world log) ++ queues.queue (noted (history world log)) client ≡ offered_to client (history world log)
