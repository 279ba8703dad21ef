-- The calls on notifications among those of the log: the state after a call, and its answer.
use Rattle.std.proofs.Common.{◌≡◌, ℕ, suc, ◌<◌, ◌≤◌, true, List, [], ◌∷◌, ◌++◌, length, Option, None, Some, arith, refl, ap, sym, ◌∙◌, subst}
use Rattle.std.specs.List.{cons_option}
use Rattle.std.specs.Option.{option_to_list}
use Rattle.sal_rows.specs.declared.outcome.CallFault.{CallFault}
use Rattle.sal_note.specs.declared.call.NoteCall.{NoteCall}
use Rattle.sal_note.specs.declared.call.NoteCall.TheVariants as notes
use Rattle.sal_note.specs.declared.call.NoteFault.{NoteFault}
use Rattle.sal_note.specs.declared.call.NoteFault.TheVariants as faults
use Rattle.sal_note.specs.declared.call.NoteReply.{NoteReply}
use Rattle.sal_note.specs.declared.call.NoteReply.TheVariants as replies
use Rattle.sal_note.specs.Answers as queued
use Rattle.sal_note.specs.Boxes.{Boxes, HasRoom, IsOf, clients_in}
use Rattle.sal_note.specs.Queues.{Asked}
use Rattle.sal_history.specs.declared.call.Call.{Call}
use Rattle.sal_history.specs.declared.call.Call.TheVariants.{Offer, Subscribe, TakeNotes}
use Rattle.sal_history.specs.World.{Domain}
use Rattle.sal_history.specs.History.{Answered, entries_of, history, reply_to}
use Rattle.sal_history.specs.Services.{by_notes, mount_call, note_asked, note_calls, note_fault, note_reply}
use Rattle.sal_hub.specs.declared.pipeline.Pipeline.{Pipeline}
use Rattle.sal_note.proofs.Counted.{subscribers-are-callers}
use Rattle.sal_hub.specs.Answers.{limit}
use Rattle.sal_hub.specs.Current.{known_of}
use Rattle.sal_hub.specs.Journals.{Noted, jotted, mark_at, taken_back}
use Rattle.sal_hub.specs.HubHistory.{HubHistory, entry_of}
use Rattle.sal_hub.specs.Notified.{AreNoted, left_by}
use Rattle.sal_hub.specs.Services.{IsServed}
use Rattle.sal_hub.proofs.Beginning.{made_now}
use Rattle.sal_hub.proofs.Histories.{length-history, note-push}
use Rattle.sal_hub.proofs.Served.{Entered, Failed, is_serving, serving_kept}

-- ---- the calls on notifications, as shared calls

abbrev pub shared : NoteCall → Call
shared (notes.Subscribe note) = Subscribe note
shared (notes.Offer note rows) = Offer note rows
shared notes.TakeNotes = TakeNotes

asked_once : (client : ℕ) (c : NoteCall) → note_asked client (shared c) ≡ Some (record { client = client; call = c })
asked_once client (notes.Subscribe note) = refl
asked_once client (notes.Offer note rows) = refl
asked_once client notes.TakeNotes = refl

answered_by : (world : List Domain) (answered : List Answered) (client : ℕ) (c : NoteCall) → reply_to world answered client (shared c) ≡ by_notes answered client c
answered_by world answered client (notes.Subscribe note) = refl
answered_by world answered client (notes.Offer note rows) = refl
answered_by world answered client notes.TakeNotes = refl

-- they are none on mounts
unmounting : (c : NoteCall) → mount_call (shared c) ≡ None
unmounting (notes.Subscribe note) = refl
unmounting c = refl

serving : (c : NoteCall) → is_serving (shared c) ≡ true
serving (notes.Subscribe note) = refl
serving c = refl

-- ---- how many subscribe

few-calls : (answered : List Answered) → length (note_calls answered) ≤ length answered
few-calls [] = omega arith
few-calls (a ∷ answered) =
    let rest = few-calls answered in
    elim (note_asked a.entry.client a.entry.call) as (λ o. length (cons_option o (note_calls answered)) ≤ suc (length answered)) [
      | None ↦ omega (arith, rest)
      | Some call ↦ omega (arith, rest)
    ]

-- fewer than the entries that a log may have
pub has_room : (j : Noted) (p : Pipeline) (b : Boxes) → AreNoted (known_of j p) b → length j.log < limit → HasRoom b.subscribed
has_room j p b noted room note =
    let world = (known_of j p).world in
    let asked = note_calls (history world j.log) in
    let here : length (clients_in b.subscribed note) ≤ length asked = subst (λ (cs : List ℕ). length cs ≤ length asked) (sym (noted.subscribed note)) (subscribers-are-callers asked note) in
    let calls = few-calls (history world j.log) in
    let long = length-history world j.log in
    let below : length j.log < 1000000 = room in
    omega (arith, here, calls, long, below)

-- ---- a call of a client

module _ {j : Noted} {p : Pipeline} {b : Boxes} (was : IsServed AreNoted j p b) (j' : Noted) (b' : Boxes) (client : ℕ) (c : NoteCall) (log : j'.log ≡ jotted j.log client (shared c)) (marks : (k : ℕ) → mark_at j'.marks k ≡ mark_at j.marks k) where
  abbrev old : HubHistory
  old = known_of j p

  abbrev answered : List Answered
  answered = history (known_of j p).world j.log

  abbrev calls : List Asked
  calls = note_calls (history (known_of j p).world j.log)

  longer : note_calls (history (known_of j p).world j'.log) ≡ note_calls (history (known_of j p).world j.log) ++ record { client = client; call = c } ∷ []
  longer =
      (λ i. note_calls (history old.world (log i)))
      ∙ note-push old.world j.log (record { client = client; number = entries_of j.log client; call = shared c })
      ∙ ap (λ (o : Option Asked). calls ++ option_to_list o) (asked_once client c)

  -- a call that was made
  pub entered_call : (reply : NoteReply) → length j.log < 1000000 → queued.Makes b b' client c reply → Entered AreNoted (known_of j p) j' p b' (entry_of (known_of j p) client (shared c)) (note_reply reply)
  entered_call reply room made = record {
    service = record {
      kept = serving_kept j j' p was.kept client (shared c) (serving c) (unmounting c) log marks;
      served = subst (λ (l : List Asked). IsOf l b') (sym longer) (made.longer calls was.served);
    };
    answer = made_now j j' p was.kept client (shared c) log (note_reply reply) room (answered_by old.world answered client c ∙ ap note_reply (made.answer calls was.served));
  }

  module _ (undo : taken_back j' ≡ j) where
    failed_by : (fault : NoteFault) → length j.log < 1000000 → queued.Fails b b' client c fault → Failed AreNoted (known_of j p) (left_by fault j') p b' (entry_of (known_of j p) client (shared c)) (note_fault fault)
    failed_by (faults.NoteRejected subscriber) room is = let it = entered_call (replies.Refused (faults.NoteRejected subscriber)) room is.made in record { service = it.service; answer = it.answer }
    failed_by faults.NoMemory room same = subst (λ (x : Noted). Failed AreNoted (known_of j p) x p b' (entry_of (known_of j p) client (shared c)) (note_fault faults.NoMemory)) (sym undo) (record {
      service = subst (IsServed AreNoted j p) (sym same) was;
      answer = refl;
    })

    -- the fault of a call
    pub failed_call : (fault : NoteFault) (f : CallFault) → f ≡ note_fault fault → (j'' : Noted) → j'' ≡ left_by fault j' → length j.log < 1000000 → queued.Fails b b' client c fault → Failed AreNoted (known_of j p) j'' p b' (entry_of (known_of j p) client (shared c)) f
    failed_call fault f of_notes j'' left room fails =
        subst (λ (x : Noted). Failed AreNoted (known_of j p) x p b' (entry_of (known_of j p) client (shared c)) f) (sym left)
        (subst (Failed AreNoted (known_of j p) (left_by fault j') p b' (entry_of (known_of j p) client (shared c))) (sym of_notes) (failed_by fault room fails))
