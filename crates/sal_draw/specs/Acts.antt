-- What an entry shows in addition to its texts: the pins that it sets, and its lines.
use Rattle.std.specs.Prelude.{ℕ, suc, ◌+◌, ◌-◌, List, [], ◌∷◌, ◌++◌, map, Option, None, Some, slice_index_or, unwrap_or, if◌then◌else◌, max, nat_eq}
use Rattle.std.specs.BTreeMap.{insert_entry, is_at}
use Rattle.std.specs.List.{flat_map, range_with_len}
use Rattle.std.specs.Map.{lookup}
use Rattle.std.specs.Ordering.{nat_cmp}
use Rattle.sal_note.specs.declared.call.Note.{Note}
use Rattle.sal_rows.specs.declared.batch.Part.{Part}
use Rattle.sal_rows.specs.declared.outcome.CallFault.{CallFault}
use Rattle.sal_rows.specs.declared.outcome.CallFault.TheVariants.{ChainFailed as FailedChain}
use Rattle.sal_rows.specs.declared.outcome.Outcome.{Outcome}
use Rattle.sal_rows.specs.declared.outcome.Outcome.TheVariants.{Done, Conflict, Invalid, ChainFailed, Unmounted}
use Rattle.sal_history.specs.declared.call.Call.{Call}
use Rattle.sal_history.specs.declared.call.Call.TheVariants as call
use Rattle.sal_history.specs.declared.reply.Reply.{Reply}
use Rattle.sal_history.specs.declared.reply.Reply.TheVariants as reply
use Rattle.sal_history.specs.History.{opened_chain}
use Rattle.sal_history.specs.Numbered.{numbered}
use Rattle.sal_draw.specs.declared.acts.Track.{Track as CodeTrack}
use Rattle.sal_shapes.specs.declared.scene.Act.{Act}
use Rattle.sal_shapes.specs.declared.scene.Act.TheVariants.{Joins, Sets, Spans}
use Rattle.sal_shapes.specs.declared.scene.Made.{Made}
use Rattle.sal_shapes.specs.declared.scene.Pin.{Pin}
use Rattle.sal_shapes.specs.declared.scene.Pin.TheVariants.{Chain, Commit, Entry, Gone, Mark, Offer, Output, Receipt, Request}
use Rattle.sal_shapes.specs.declared.scene.Style.TheVariants.{Chained, Clash, Fails, Found, Gives, Hands, Makes, Stands, Told}

-- ---- by the reply

-- An outcome in a reply: a line from the commit that it made or that its conflict names, from the submission with which its chain
-- failed, or from the end of its domain.
abbrev pub outcome_acts : ℕ → Outcome → List Act
outcome_acts domain (Done commit) = Joins Told (Commit domain commit) ∷ []
outcome_acts domain (Conflict store path kind commit) = Joins Clash (Commit domain commit) ∷ []
outcome_acts domain (Invalid store path rule) = []
outcome_acts domain (ChainFailed receipt) = Joins Fails (Receipt receipt) ∷ []
outcome_acts domain (Unmounted gone) = Joins Fails (Gone gone) ∷ []

-- the base of a transaction: a commit, or a pending submission of its chain
abbrev pub base_pin : ℕ → ℕ → Option ℕ → Pin
base_pin domain commit None = Commit domain commit
base_pin domain commit (Some receipt) = Receipt receipt

-- a transaction of these chains' domains that began
abbrev pub begun_acts : List ℕ → Call → ℕ → Option ℕ → List Act
begun_acts chains (call.Begin domain mode) commit on = Joins Stands (base_pin domain commit on) ∷ []
begun_acts chains (call.ChainBegin chain mode) commit on =
    Joins Chained (Chain chain) ∷ Sets (Chain chain) ∷ Joins Stands (base_pin (unwrap_or (numbered chains chain) 0) commit on) ∷ []
begun_acts chains c commit on = []

-- a submission with this receipt
abbrev pub sent_acts : Call → ℕ → List Act
sent_acts (call.Submit place ops) receipt = Spans place ∷ Sets (Receipt receipt) ∷ []
sent_acts c receipt = []

abbrev pub accepted_acts : Call → List Act
accepted_acts (call.Cancel place) = Spans place ∷ []
accepted_acts (call.Answer id output) = Sets (Output id) ∷ []
accepted_acts (call.Mount path device) = Sets (Commit device 0) ∷ []
accepted_acts (call.Unmount domain) = Sets (Gone domain) ∷ []
accepted_acts (call.Mark mark) = Sets (Mark mark) ∷ []
accepted_acts c = []

-- a mark that was found
abbrev pub found_acts : Call → List Act
found_acts (call.After mark) = Joins Found (Mark mark) ∷ []
found_acts c = []

-- the answer to a request
abbrev pub output_acts : Call → List Act
output_acts (call.Collect id) = Joins Hands (Output id) ∷ []
output_acts c = []

abbrev pub refused_acts : CallFault → List Act
refused_acts (FailedChain receipt) = Joins Fails (Receipt receipt) ∷ []
refused_acts fault = []

-- a line from the commit of a part of a batch
abbrev pub part_act : ℕ → Part → Act
part_act domain part = Joins Gives (Commit domain part.commit)

abbrev pub reply_acts : List ℕ → Call → Reply → List Act
reply_acts chains c (reply.Begun commit on) = begun_acts chains c commit on
reply_acts chains c (reply.Chain id) = Sets (Chain id) ∷ []
reply_acts chains c reply.Accepted = accepted_acts c
reply_acts chains c (reply.Receipt number) = sent_acts c number
reply_acts chains c (reply.Settled domain outcome) = outcome_acts domain outcome
reply_acts chains c (reply.Decided receipt domain outcome) = outcome_acts domain outcome
reply_acts chains c reply.Nothing = []
reply_acts chains c (reply.Listener id domain path opened) = Joins Stands (Commit domain opened.version) ∷ []
reply_acts chains c (reply.Batch domain batch) = map (part_act domain) batch.lists
reply_acts chains c (reply.CallMade id) = Sets (Request id) ∷ []
reply_acts chains c (reply.Request request) = Joins Hands (Request request.id) ∷ []
reply_acts chains c (reply.Output rpc rows) = output_acts c
reply_acts chains c (reply.Offered count) = []
reply_acts chains c (reply.Notes list) = []
reply_acts chains c (reply.MountAt mount) = []
reply_acts chains c reply.Found = found_acts c
reply_acts chains c reply.Late = []
reply_acts chains c (reply.Refused fault) = refused_acts fault

-- ---- decisions

-- the receipt that the call settles
abbrev pub settled_receipt : Call → ℕ
settled_receipt (call.Settle receipt) = receipt
settled_receipt c = 0

-- the receipt up to which all are decided after the call
abbrev pub decided_upto : Call → Reply → ℕ → ℕ
decided_upto c (reply.Settled domain outcome) before = max before (settled_receipt c)
decided_upto c (reply.Decided receipt domain outcome) before = max before receipt
decided_upto c r before = before

-- a commit that is decided here: later lines lead to its point
abbrev pub made_acts : Option Made → List Act
made_acts None = []
made_acts (Some m) = Sets (Commit m.domain m.number) ∷ Joins Makes (Commit m.domain m.number) ∷ []

-- the commits of the receipts after `before`, up to `upto`; `made` has them by receipt, from 0 on
abbrev pub decided_acts : (ℕ → Option Made) → ℕ → ℕ → List Act
decided_acts made before upto = flat_map made_acts (map made (range_with_len before (upto - before)))

-- ---- notifications

-- the number of accepted offers of the notification
abbrev pub offers_of : List (ℕ × ℕ) → ℕ → ℕ
offers_of offers note = unwrap_or (lookup (is_at (nat_cmp note)) offers) 0

abbrev pub one_more : List (ℕ × ℕ) → ℕ → List (ℕ × ℕ)
one_more offers note = insert_entry nat_cmp offers note (offers_of offers note + 1)

-- the numbers of accepted offers after the call
abbrev pub offers_after : List (ℕ × ℕ) → Call → Reply → List (ℕ × ℕ)
offers_after offers (call.Offer note rows) (reply.Offered count) = one_more offers note
offers_after offers c r = offers

abbrev pub times : ℕ → List Note → ℕ
times note [] = 0
times note (n ∷ notes) = if nat_eq n.note note then suc (times note notes) else times note notes

-- A line from the offer of each notification that is taken. What waits for a client are the last offers of each notification to which it is subscribed, in
-- order.
abbrev pub taken_acts : List (ℕ × ℕ) → List Note → List Act
taken_acts offers [] = []
taken_acts offers (n ∷ notes) = Joins Hands (Offer n.note (offers_of offers n.note - times n.note (n ∷ notes))) ∷ taken_acts offers notes

abbrev pub offer_acts : List (ℕ × ℕ) → Call → List Act
offer_acts offers (call.Offer note rows) = Sets (Offer note (offers_of offers note)) ∷ []
offer_acts offers c = []

abbrev pub note_acts : List (ℕ × ℕ) → Call → Reply → List Act
note_acts offers c (reply.Offered count) = offer_acts offers c
note_acts offers c (reply.Notes list) = taken_acts offers list
note_acts offers c r = []

-- ---- along a log

-- the state after some entries: the receipt up to which all are decided, the domain of each chain, and the number of accepted offers of each notification
pub record Track : Type 0 where
  pub decided : ℕ
  pub chains : List ℕ
  pub offers : List (ℕ × ℕ)

abbrev pub new_track : Track
new_track = record { decided = 0; chains = []; offers = [] }

abbrev pub option_list : {X : Type 0} → Option X → List X
option_list None = []
option_list (Some x) = x ∷ []

-- one entry more
abbrev pub track_after : Track → Call → Reply → Track
track_after t c r =
    record { decided = decided_upto c r t.decided; chains = t.chains ++ option_list (opened_chain c r); offers = offers_after t.offers c r }

-- what the entry at this index shows
abbrev pub entry_acts : (ℕ → Option Made) → Track → ℕ → Call → Reply → List Act
entry_acts made t place c r =
    Sets (Entry place) ∷ (decided_acts made t.decided (decided_upto c r t.decided) ++ (reply_acts t.chains c r ++ note_acts t.offers c r))

-- ---- for the code

-- the commits by receipt, from 0 on, as a list has them
abbrev pub made_in : List (Option Made) → ℕ → Option Made
made_in made i = slice_index_or made i None

abbrev pub track_of : CodeTrack → Track
track_of t = record { decided = t.decided; chains = t.chains.items; offers = t.offers.entries }

-- a notification without data
abbrev pub note : ℕ → Note
note number = record { note = number; rows = [] }
