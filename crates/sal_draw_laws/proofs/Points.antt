-- An entry draws the points of the commits that it decides, and no other one; all entries those of all receipts.
use Rattle.std.proofs.Common.{◌≡◌, ℕ, zero, suc, ◌+◌, ◌-◌, ◌≤◌, List, [], ◌∷◌, ◌++◌, Option, None, Some, refl, ap, sym, ◌∙◌, arith}
use Rattle.std.proofs.lemmas.List.{append-nil, map-append}
use Rattle.std.specs.Prelude.{map}
use Rattle.std.specs.List.{flat_map, range_with_len}
use Rattle.std.proofs.lemmas.List.Concat.{flat_map-append}
use Rattle.sal_rows.specs.declared.batch.Part.{Part}
use Rattle.sal_rows.specs.declared.outcome.CallFault.{CallFault}
use Rattle.sal_rows.specs.declared.outcome.CallFault.TheVariants.{ChainFailed as FailedChain}
use Rattle.sal_rows.specs.declared.outcome.Outcome.{Outcome}
use Rattle.sal_rows.specs.declared.outcome.Outcome.TheVariants.{Done, Conflict, Invalid, ChainFailed, Unmounted}
use Rattle.sal_note.specs.declared.call.Note.{Note}
use Rattle.sal_history.specs.declared.call.Call.{Call}
use Rattle.sal_history.specs.declared.call.Call.TheVariants as call
use Rattle.sal_history.specs.declared.reply.Reply.{Reply}
use Rattle.sal_history.specs.declared.reply.Reply.TheVariants as reply
use Rattle.sal_shapes.specs.declared.scene.Act.{Act}
use Rattle.sal_shapes.specs.declared.scene.Made.{Made}
use Rattle.sal_draw.specs.Acts.{Track, accepted_acts, begun_acts, decided_acts, decided_upto, entry_acts, found_acts, made_acts, note_acts, offer_acts, outcome_acts, output_acts, part_act, refused_acts, reply_acts, sent_acts, taken_acts}
use Rattle.sal_draw.specs.Acts.{track_after}
use Rattle.sal_draw_laws.specs.Laws.{acts_along, commit_in, point_of, track_along}

of_begun : (chains : List ℕ) (c : Call) (commit : ℕ) (on : Option ℕ) → flat_map point_of (begun_acts chains c commit on) ≡ []
of_begun chains (call.Begin domain mode) commit on = refl
of_begun chains (call.ChainBegin chain mode) commit on = refl
of_begun chains c commit on = refl

of_sent : (c : Call) (receipt : ℕ) → flat_map point_of (sent_acts c receipt) ≡ []
of_sent (call.Submit place ops) receipt = refl
of_sent c receipt = refl

of_accepted : (c : Call) → flat_map point_of (accepted_acts c) ≡ []
of_accepted (call.Cancel place) = refl
of_accepted (call.Answer id output) = refl
of_accepted (call.Mount path device) = refl
of_accepted (call.Unmount domain) = refl
of_accepted (call.Mark mark) = refl
of_accepted c = refl

of_found : (c : Call) → flat_map point_of (found_acts c) ≡ []
of_found (call.After mark) = refl
of_found c = refl

of_output : (c : Call) → flat_map point_of (output_acts c) ≡ []
of_output (call.Collect id) = refl
of_output c = refl

of_refused : (fault : CallFault) → flat_map point_of (refused_acts fault) ≡ []
of_refused (FailedChain receipt) = refl
of_refused fault = refl

of_parts : (domain : ℕ) (parts : List Part) → flat_map point_of (map (part_act domain) parts) ≡ []
of_parts domain [] = refl
of_parts domain (part ∷ parts) = of_parts domain parts

of_outcome : (domain : ℕ) (o : Outcome) → flat_map point_of (outcome_acts domain o) ≡ []
of_outcome domain (Done commit) = refl
of_outcome domain (Conflict store path kind commit) = refl
of_outcome domain (Invalid store path rule) = refl
of_outcome domain (ChainFailed receipt) = refl
of_outcome domain (Unmounted gone) = refl

of_reply : (chains : List ℕ) (c : Call) (r : Reply) → flat_map point_of (reply_acts chains c r) ≡ []
of_reply chains c (reply.Begun commit on) = of_begun chains c commit on
of_reply chains c (reply.Chain id) = refl
of_reply chains c reply.Accepted = of_accepted c
of_reply chains c (reply.Receipt number) = of_sent c number
of_reply chains c (reply.Settled domain outcome) = of_outcome domain outcome
of_reply chains c (reply.Decided receipt domain outcome) = of_outcome domain outcome
of_reply chains c reply.Nothing = refl
of_reply chains c (reply.Listener id domain path opened) = refl
of_reply chains c (reply.Batch domain batch) = of_parts domain batch.lists
of_reply chains c (reply.CallMade id) = refl
of_reply chains c (reply.Request request) = refl
of_reply chains c (reply.Output rpc rows) = of_output c
of_reply chains c (reply.Offered count) = refl
of_reply chains c (reply.Notes list) = refl
of_reply chains c (reply.MountAt mount) = refl
of_reply chains c reply.Found = of_found c
of_reply chains c reply.Late = refl
of_reply chains c (reply.Refused fault) = of_refused fault

of_offer : (offers : List (ℕ × ℕ)) (c : Call) → flat_map point_of (offer_acts offers c) ≡ []
of_offer offers (call.Offer note rows) = refl
of_offer offers c = refl

of_taken : (offers : List (ℕ × ℕ)) (notes : List Note) → flat_map point_of (taken_acts offers notes) ≡ []
of_taken offers [] = refl
of_taken offers (n ∷ notes) = of_taken offers notes

of_notes : (offers : List (ℕ × ℕ)) (c : Call) (r : Reply) → flat_map point_of (note_acts offers c r) ≡ []
of_notes offers c (reply.Offered count) = of_offer offers c
of_notes offers c (reply.Notes list) = of_taken offers list
of_notes offers c r = refl

of_made : (os : List (Option Made)) → flat_map point_of (flat_map made_acts os) ≡ flat_map commit_in os
of_made [] = refl
of_made (None ∷ os) = of_made os
of_made (Some m ∷ os) = ap (λ (ms : List Made). commit_in (Some m) ++ ms) (of_made os)

pub of_entry : (made : ℕ → Option Made) (t : Track) (place : ℕ) (c : Call) (r : Reply) → flat_map point_of (entry_acts made t place c r) ≡ flat_map commit_in (map made (range_with_len t.decided (decided_upto c r t.decided - t.decided)))
of_entry made t place c r =
    let os = map made (range_with_len t.decided (decided_upto c r t.decided - t.decided)) in
    let replied = reply_acts t.chains c r in
    let notes = note_acts t.offers c r in
    flat_map-append point_of (flat_map made_acts os) (replied ++ notes)
    ∙ ap (λ (ms : List Made). ms ++ flat_map point_of (replied ++ notes)) (of_made os)
    ∙ ap (λ (ms : List Made). flat_map commit_in os ++ ms) (flat_map-append point_of replied notes ∙ ap (λ (ms : List Made). ms ++ flat_map point_of notes) (of_reply t.chains c r) ∙ of_notes t.offers c r)
    ∙ append-nil (flat_map commit_in os)

-- ---- ranges of receipts

range_join : (a n m : ℕ) → range_with_len a n ++ range_with_len (a + n) m ≡ range_with_len a (n + m)
range_join a zero m =
    let from : a + 0 ≡ a = omega arith in
    let all : m ≡ 0 + m = omega arith in
    ap (λ (k : ℕ). range_with_len k m) from ∙ ap (λ (k : ℕ). range_with_len a k) all
range_join a (suc n) m =
    let from : a + suc n ≡ (a + 1) + n = omega arith in
    let all : suc (n + m) ≡ suc n + m = omega arith in
    ap (λ (ks : List ℕ). a ∷ ks) (ap (λ (k : ℕ). range_with_len (a + 1) n ++ range_with_len k m) from ∙ range_join (a + 1) n m)
    ∙ ap (λ (k : ℕ). range_with_len a k) all

range_between : (a b c : ℕ) → a ≤ b → b ≤ c → range_with_len a (b - a) ++ range_with_len b (c - b) ≡ range_with_len a (c - a)
range_between a b c h k =
    let middle : b ≡ a + (b - a) = omega (arith, h) in
    let whole : (b - a) + (c - b) ≡ c - a = omega (arith, h, k) in
    ap (λ (n : ℕ). range_with_len a (b - a) ++ range_with_len n (c - b)) middle
    ∙ range_join a (b - a) (c - b)
    ∙ ap (λ (n : ℕ). range_with_len a n) whole

-- ---- along a log

grows : (c : Call) (r : Reply) (n : ℕ) → n ≤ decided_upto c r n
grows c (reply.Settled domain outcome) n = omega arith
grows c (reply.Decided receipt domain outcome) n = omega arith
grows c r n = omega arith

all_grow : (t : Track) (said : List (Call × Reply)) → t.decided ≤ (track_along t said).decided
all_grow t [] = omega arith
all_grow t ((c, r) ∷ more) =
    let first : t.decided ≤ decided_upto c r t.decided = grows c r t.decided in
    let rest : decided_upto c r t.decided ≤ (track_along (track_after t c r) more).decided = all_grow (track_after t c r) more in
    omega (arith, first, rest)

pub of_all : (made : ℕ → Option Made) (t : Track) (place : ℕ) (said : List (Call × Reply)) → flat_map point_of (acts_along made t place said) ≡ flat_map commit_in (map made (range_with_len t.decided ((track_along t said).decided - t.decided)))
of_all made t place [] =
    let none : 0 ≡ t.decided - t.decided = omega arith in
    ap (λ (n : ℕ). flat_map commit_in (map made (range_with_len t.decided n))) none
of_all made t place ((c, r) ∷ more) =
    let next = track_after t c r in
    let first = range_with_len t.decided (next.decided - t.decided) in
    let last = (track_along next more).decided in
    let rest = range_with_len next.decided (last - next.decided) in
    let up : t.decided ≤ next.decided = grows c r t.decided in
    flat_map-append point_of (entry_acts made t place c r) (acts_along made next (place + 1) more)
    ∙ ap (λ (ms : List Made). ms ++ flat_map point_of (acts_along made next (place + 1) more)) (of_entry made t place c r)
    ∙ ap (λ (ms : List Made). flat_map commit_in (map made first) ++ ms) (of_all made next (place + 1) more)
    ∙ sym (flat_map-append commit_in (map made first) (map made rest))
    ∙ ap (λ (os : List (Option Made)). flat_map commit_in os) (sym (map-append made first rest))
    ∙ ap (λ (ns : List ℕ). flat_map commit_in (map made ns)) (range_between t.decided next.decided last up (all_grow next more))
