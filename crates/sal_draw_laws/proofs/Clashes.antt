-- An entry draws the line of a conflict for the conflict that it returns, and no other one.
use Rattle.std.proofs.Common.{◌≡◌, ℕ, ◌-◌, List, [], ◌∷◌, ◌++◌, Option, None, Some, refl, ap, ◌∙◌}
use Rattle.std.proofs.lemmas.List.{append-nil}
use Rattle.std.specs.Prelude.{map}
use Rattle.std.specs.List.{flat_map, range_with_len}
use Rattle.std.proofs.lemmas.List.Concat.{flat_map-append}
use Rattle.sal_rows.specs.declared.batch.Part.{Part}
use Rattle.sal_rows.specs.declared.outcome.CallFault.{CallFault}
use Rattle.sal_rows.specs.declared.outcome.CallFault.TheVariants.{ChainFailed as FailedChain}
use Rattle.sal_rows.specs.declared.outcome.Outcome.{Outcome}
use Rattle.sal_rows.specs.declared.outcome.Outcome.TheVariants.{Done, Conflict, Invalid, ChainFailed, Unmounted}
use Rattle.sal_note.specs.declared.call.Note.{Note}
use Rattle.sal_history.specs.declared.call.Call.{Call}
use Rattle.sal_history.specs.declared.call.Call.TheVariants as call
use Rattle.sal_history.specs.declared.reply.Reply.{Reply}
use Rattle.sal_history.specs.declared.reply.Reply.TheVariants as reply
use Rattle.sal_shapes.specs.declared.scene.Act.{Act}
use Rattle.sal_shapes.specs.declared.scene.Made.{Made}
use Rattle.sal_draw.specs.Acts.{Track, accepted_acts, begun_acts, decided_acts, decided_upto, entry_acts, found_acts, made_acts, note_acts, offer_acts, outcome_acts, output_acts, part_act, refused_acts, reply_acts, sent_acts, taken_acts}
use Rattle.sal_draw_laws.specs.Laws.{clash_of, named_by, returned}

of_begun : (chains : List ℕ) (c : Call) (commit : ℕ) (on : Option ℕ) → flat_map clash_of (begun_acts chains c commit on) ≡ []
of_begun chains (call.Begin domain mode) commit on = refl
of_begun chains (call.ChainBegin chain mode) commit on = refl
of_begun chains c commit on = refl

of_sent : (c : Call) (receipt : ℕ) → flat_map clash_of (sent_acts c receipt) ≡ []
of_sent (call.Submit place ops) receipt = refl
of_sent c receipt = refl

of_accepted : (c : Call) → flat_map clash_of (accepted_acts c) ≡ []
of_accepted (call.Cancel place) = refl
of_accepted (call.Answer id output) = refl
of_accepted (call.Mount path device) = refl
of_accepted (call.Unmount domain) = refl
of_accepted (call.Mark mark) = refl
of_accepted c = refl

of_found : (c : Call) → flat_map clash_of (found_acts c) ≡ []
of_found (call.After mark) = refl
of_found c = refl

of_output : (c : Call) → flat_map clash_of (output_acts c) ≡ []
of_output (call.Collect id) = refl
of_output c = refl

of_refused : (fault : CallFault) → flat_map clash_of (refused_acts fault) ≡ []
of_refused (FailedChain receipt) = refl
of_refused fault = refl

of_parts : (domain : ℕ) (parts : List Part) → flat_map clash_of (map (part_act domain) parts) ≡ []
of_parts domain [] = refl
of_parts domain (part ∷ parts) = of_parts domain parts

of_outcome : (domain : ℕ) (o : Outcome) → flat_map clash_of (outcome_acts domain o) ≡ named_by domain o
of_outcome domain (Done commit) = refl
of_outcome domain (Conflict store path kind commit) = refl
of_outcome domain (Invalid store path rule) = refl
of_outcome domain (ChainFailed receipt) = refl
of_outcome domain (Unmounted gone) = refl

of_reply : (chains : List ℕ) (c : Call) (r : Reply) → flat_map clash_of (reply_acts chains c r) ≡ returned r
of_reply chains c (reply.Begun commit on) = of_begun chains c commit on
of_reply chains c (reply.Chain id) = refl
of_reply chains c reply.Accepted = of_accepted c
of_reply chains c (reply.Receipt number) = of_sent c number
of_reply chains c (reply.Settled domain outcome) = of_outcome domain outcome
of_reply chains c (reply.Decided receipt domain outcome) = of_outcome domain outcome
of_reply chains c reply.Nothing = refl
of_reply chains c (reply.Listener id domain path opened) = refl
of_reply chains c (reply.Batch domain batch) = of_parts domain batch.lists
of_reply chains c (reply.CallMade id) = refl
of_reply chains c (reply.Request request) = refl
of_reply chains c (reply.Output rpc rows) = of_output c
of_reply chains c (reply.Offered count) = refl
of_reply chains c (reply.Notes list) = refl
of_reply chains c (reply.MountAt mount) = refl
of_reply chains c reply.Found = of_found c
of_reply chains c reply.Late = refl
of_reply chains c (reply.Refused fault) = of_refused fault

of_offer : (offers : List (ℕ × ℕ)) (c : Call) → flat_map clash_of (offer_acts offers c) ≡ []
of_offer offers (call.Offer note rows) = refl
of_offer offers c = refl

of_taken : (offers : List (ℕ × ℕ)) (notes : List Note) → flat_map clash_of (taken_acts offers notes) ≡ []
of_taken offers [] = refl
of_taken offers (n ∷ notes) = of_taken offers notes

of_notes : (offers : List (ℕ × ℕ)) (c : Call) (r : Reply) → flat_map clash_of (note_acts offers c r) ≡ []
of_notes offers c (reply.Offered count) = of_offer offers c
of_notes offers c (reply.Notes list) = of_taken offers list
of_notes offers c r = refl

of_made : (os : List (Option Made)) → flat_map clash_of (flat_map made_acts os) ≡ []
of_made [] = refl
of_made (None ∷ os) = of_made os
of_made (Some m ∷ os) = of_made os

pub of_entry : (made : ℕ → Option Made) (t : Track) (place : ℕ) (c : Call) (r : Reply) → flat_map clash_of (entry_acts made t place c r) ≡ returned r
of_entry made t place c r =
    let decided = decided_acts made t.decided (decided_upto c r t.decided) in
    let replied = reply_acts t.chains c r in
    let notes = note_acts t.offers c r in
    flat_map-append clash_of decided (replied ++ notes)
    ∙ ap (λ (ms : List Made). ms ++ flat_map clash_of (replied ++ notes)) (of_made (map made (range_with_len t.decided (decided_upto c r t.decided - t.decided))))
    ∙ flat_map-append clash_of replied notes
    ∙ ap (λ (ms : List Made). ms ++ flat_map clash_of notes) (of_reply t.chains c r)
    ∙ ap (λ (ms : List Made). returned r ++ ms) (of_notes t.offers c r)
    ∙ append-nil (returned r)
