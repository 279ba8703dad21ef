-- The boxes stay those of the calls when one more is made.
use Rattle.std.proofs.Common.{◌≡◌, ℕ, Bool, true, false, ◌||◌, List, [], ◌∷◌, ◌++◌, Some, None, length, refl, ap, sym, ◌∙◌, subst, if◌then◌else◌, nat_eq, nat_le}
use Rattle.std.specs.Prelude.{is_some, slice_get}
use Rattle.std.specs.List.{filter, list_any}
use Rattle.std.proofs.lemmas.List.Sums.{fold-append}
use Rattle.sal_types.specs.declared.row.Row.{Row}
use Rattle.sal_note.specs.declared.call.Note.{Note}
use Rattle.sal_note.specs.declared.call.NoteCall.{NoteCall}
use Rattle.sal_note.specs.declared.call.NoteCall.TheVariants.{Subscribe, Offer, TakeNotes}
use Rattle.sal_note.specs.declared.call.NoteFault.TheVariants.{NoteRejected}
use Rattle.sal_note.specs.declared.call.NoteReply.{NoteReply}
use Rattle.sal_note.specs.declared.call.NoteReply.TheVariants.{Accepted, Offered, Notes, Refused}
use Rattle.sal_note.specs.Answers.{Makes}
use Rattle.sal_note.specs.Boxes.{Ascend, Boxes, IsKept, box_in, clients_in, first_full, given, queue_in}
use Rattle.sal_note.specs.Queues.{Asked, Made, given_or_refused, is_full, made_of, make, offered, reply_to, subscribed_to, subscribers, with_client}
use Rattle.sal_note.proofs.Ascending.{among-with}
use Rattle.sal_note.proofs.Boxed.{HaveBoxes, boxes-stay, queue-given}
use Rattle.sal_note.proofs.Queued.{offered-one, queue-same, subscribed-one, subscribers-same, taken-one}

pub makes : (old new : Boxes) (client : ℕ) (call : NoteCall) (reply : NoteReply) → ((made : List Made) → IsKept made old → reply_to made client call ≡ reply) → ((made : List Made) → IsKept made old → IsKept (made ++ record { client = client; call = call; reply = reply; subscribed = subscribed_to made call } ∷ []) new) → Makes old new client call reply
makes old new client call reply answer longer = record {
  longer = λ calls kept. subst (λ (made : List Made). IsKept made new) (sym (one_more calls kept)) (longer (made_of calls) kept);
  answer = λ calls kept. answer (made_of calls) kept;
}
  where
    one_more : (calls : List Asked) → IsKept (made_of calls) old → made_of (calls ++ record { client = client; call = call } ∷ []) ≡ made_of calls ++ record { client = client; call = call; reply = reply; subscribed = subscribed_to (made_of calls) call } ∷ []
    one_more calls kept =
        fold-append make [] calls (record { client = client; call = call } ∷ [])
        ∙ ap (λ (r : NoteReply). made_of calls ++ record { client = client; call = call; reply = r; subscribed = subscribed_to (made_of calls) call } ∷ []) (answer (made_of calls) kept)

-- ---- a client subscribes

pub subscribe_made : (old new : Boxes) (client note : ℕ) → ((n : ℕ) → clients_in new.subscribed n ≡ (if nat_eq note n then with_client client (clients_in old.subscribed n) else clients_in old.subscribed n))
    → ((c : ℕ) → queue_in new.queues c ≡ queue_in old.queues c) → ((c : ℕ) → is_some (box_in new.queues c) ≡ (if nat_eq client c then true else is_some (box_in old.queues c))) → Makes old new client (Subscribe note) Accepted
subscribe_made old new client note clients queues boxes = makes old new client (Subscribe note) Accepted
    (λ made kept. refl)
    (λ made kept. record {
      subscribed = λ n. clients n ∙ ap (λ cs. if nat_eq note n then with_client client cs else cs) (kept.subscribed n) ∙ sym (subscribed-one made client note n Accepted []);
      queued = λ c. queues c ∙ kept.queued c ∙ sym (queue-same made (record { client = client; call = Subscribe note; reply = Accepted; subscribed = [] }) c refl refl);
      each = λ n c among. boxes c ∙ has n c (kept.each n c) (ap (list_any (nat_eq c)) (sym (clients n)) ∙ among);
    })
  where
    has : (n c : ℕ) → (list_any (nat_eq c) (clients_in old.subscribed n) ≡ true → is_some (box_in old.queues c) ≡ true) → list_any (nat_eq c) (if nat_eq note n then with_client client (clients_in old.subscribed n) else clients_in old.subscribed n) ≡ true → (if nat_eq client c then true else is_some (box_in old.queues c)) ≡ true
    has n c had =
        elim (nat_eq note n) as (λ b. list_any (nat_eq c) (if b then with_client client (clients_in old.subscribed n) else clients_in old.subscribed n) ≡ true → (if nat_eq client c then true else is_some (box_in old.queues c)) ≡ true) [
          | true ↦ λ e. new_one (nat_eq client c) (list_any (nat_eq c) (clients_in old.subscribed n)) (is_some (box_in old.queues c)) had (among-with c client (clients_in old.subscribed n) e)
          | false ↦ λ e. new_one (nat_eq client c) (list_any (nat_eq c) (clients_in old.subscribed n)) (is_some (box_in old.queues c)) had (ap (λ b. b || nat_eq client c) e)
        ]
      where
        new_one : (own among there : Bool) → (among ≡ true → there ≡ true) → (among || own) ≡ true → (if own then true else there) ≡ true
        new_one true among there f e = refl
        new_one false true there f e = f refl
        new_one false false there f e = cc

-- ---- a notification is offered

full-is : (made : List Made) (b : Boxes) → IsKept made b → (c : ℕ) → nat_le 64 (length (queue_in b.queues c)) ≡ is_full made c
full-is made b kept c = ap (λ (q : List Note). nat_le 64 (length q)) (kept.queued c)

offered-is : (made : List Made) (b : Boxes) → IsKept made b → (note : ℕ) → offered made (subscribers made note) ≡ given_or_refused (clients_in b.subscribed note) (first_full b.queues (clients_in b.subscribed note))
offered-is made b kept note = λ i. given_or_refused (sym (kept.subscribed note) i) (slice_get (filter (λ c. sym (full-is made b kept c) i) (sym (kept.subscribed note) i)) 0)

pub offer_refused : (b : Boxes) (client note : ℕ) (rows : List Row) (subscriber : ℕ) → first_full b.queues (clients_in b.subscribed note) ≡ Some subscriber → Makes b b client (Offer note rows) (Refused (NoteRejected subscriber))
offer_refused b client note rows subscriber full = makes b b client (Offer note rows) (Refused (NoteRejected subscriber))
    (λ made kept. offered-is made b kept note ∙ ap (given_or_refused (clients_in b.subscribed note)) full)
    (λ made kept.
    let m : Made = record { client = client; call = Offer note rows; reply = Refused (NoteRejected subscriber); subscribed = subscribers made note } in
    record {
      subscribed = λ n. kept.subscribed n ∙ sym (subscribers-same made m n refl);
      queued = λ c. kept.queued c ∙ sym (queue-same made m c refl refl);
      each = kept.each;
    })

pub offer_made : (old new : Boxes) (client note : ℕ) (rows : List Row) → new.subscribed ≡ old.subscribed → new.queues ≡ given (record { note = note; rows = rows }) old.queues (clients_in old.subscribed note)
    → Ascend (clients_in old.subscribed note) → first_full old.queues (clients_in old.subscribed note) ≡ None → Makes old new client (Offer note rows) (Offered (length (clients_in old.subscribed note)))
offer_made old new client note rows same gives ascend free = makes old new client (Offer note rows) (Offered (length (clients_in old.subscribed note)))
    (λ made kept. offered-is made old kept note ∙ ap (given_or_refused (clients_in old.subscribed note)) free)
    (λ made kept.
    let n : Note = record { note = note; rows = rows } in
    let to : List ℕ = clients_in old.subscribed note in
    let m : Made = record { client = client; call = Offer note rows; reply = Offered (length to); subscribed = subscribers made note } in
    let have : HaveBoxes old.queues to = λ d among. kept.each note d among in
    record {
      subscribed = λ k. ap (λ es. clients_in es k) same ∙ kept.subscribed k ∙ sym (subscribers-same made m k refl);
      queued = λ c. ap (λ es. queue_in es c) gives ∙ queue-given n old.queues to ascend have c ∙ (λ i. kept.queued c i ++ (if list_any (nat_eq c) (kept.subscribed note i) then n ∷ [] else [])) ∙ sym (offered-one made client note rows (length to) c (subscribers made note));
      each = λ k c among. ap (λ es. is_some (box_in es c)) gives ∙ boxes-stay n old.queues to have c (kept.each k c (ap (λ es. list_any (nat_eq c) (clients_in es k)) (sym same) ∙ among));
    })

-- ---- a client takes what waits

pub take_made : (old new : Boxes) (client : ℕ) (list : List Note) → new.subscribed ≡ old.subscribed → list ≡ queue_in old.queues client → ((c : ℕ) → queue_in new.queues c ≡ (if nat_eq client c then [] else queue_in old.queues c)) → ((c : ℕ) → is_some (box_in new.queues c) ≡ is_some (box_in old.queues c)) → Makes old new client TakeNotes (Notes list)
take_made old new client list same taken queues boxes = makes old new client TakeNotes (Notes list)
    (λ made kept. ap Notes (sym (kept.queued client) ∙ sym taken))
    (λ made kept.
    let m : Made = record { client = client; call = TakeNotes; reply = Notes list; subscribed = [] } in
    record {
      subscribed = λ n. ap (λ es. clients_in es n) same ∙ kept.subscribed n ∙ sym (subscribers-same made m n refl);
      queued = λ c. queues c ∙ ap (λ (q : List Note). if nat_eq client c then [] else q) (kept.queued c) ∙ sym (taken-one made client (Notes list) [] c);
      each = λ n c among. boxes c ∙ kept.each n c (ap (λ es. list_any (nat_eq c) (clients_in es n)) (sym same) ∙ among);
    })
