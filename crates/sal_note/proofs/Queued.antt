-- The effect of one more call on subscribers and queues.
use Rattle.std.proofs.Common.{◌≡◌, ℕ, true, false, ◌&&◌, List, [], ◌∷◌, ◌++◌, refl, ap, ◌∙◌, append-nil, if◌then◌else◌, nat_eq}
use Rattle.std.specs.List.{fold, list_any}
use Rattle.std.proofs.lemmas.List.Sums.{fold-append}
use Rattle.sal_types.specs.declared.row.Row.{Row}
use Rattle.sal_note.specs.declared.call.Note.{Note}
use Rattle.sal_note.specs.declared.call.NoteCall.TheVariants.{Subscribe, Offer, TakeNotes}
use Rattle.sal_note.specs.declared.call.NoteReply.{NoteReply}
use Rattle.sal_note.specs.declared.call.NoteReply.TheVariants.{Offered}
use Rattle.sal_note.specs.Queues.{Made, brings, queue, subscribers, subscribes, takes, with_client}

module _ (made : List Made) (m : Made) where
  subscribers-more : (note : ℕ) → subscribers (made ++ m ∷ []) note ≡ fold (λ ds c. with_client c ds) (subscribers made note) (subscribes note m.client m.call)
  subscribers-more note = fold-append (λ (cs : List ℕ) (a : Made). fold (λ ds c. with_client c ds) cs (subscribes note a.client a.call)) [] made (m ∷ [])

  queue-more : (client : ℕ) → queue (made ++ m ∷ []) client ≡ (if takes m.call && nat_eq m.client client then [] else queue made client ++ brings client m.call m.reply m.subscribed)
  queue-more client = fold-append (λ (notes : List Note) (a : Made). if takes a.call && nat_eq a.client client then [] else notes ++ brings client a.call a.reply a.subscribed) [] made (m ∷ [])

  -- a call without subscribers
  pub subscribers-same : (note : ℕ) → subscribes note m.client m.call ≡ [] → subscribers (made ++ m ∷ []) note ≡ subscribers made note
  subscribers-same note none = subscribers-more note ∙ ap (λ (cs : List ℕ). fold (λ ds c. with_client c ds) (subscribers made note) cs) none

  -- a call that takes and adds no notification
  pub queue-same : (client : ℕ) → takes m.call ≡ false → brings client m.call m.reply m.subscribed ≡ [] → queue (made ++ m ∷ []) client ≡ queue made client
  queue-same client keeps none =
      queue-more client
      ∙ ap (λ b. if b && nat_eq m.client client then [] else queue made client ++ brings client m.call m.reply m.subscribed) keeps
      ∙ ap (λ (l : List Note). queue made client ++ l) none ∙ append-nil (queue made client)

module _ (made : List Made) (client : ℕ) where
  pub subscribed-one : (note n : ℕ) (reply : NoteReply) (to : List ℕ) → subscribers (made ++ record { client = client; call = Subscribe note; reply = reply; subscribed = to } ∷ []) n ≡ (if nat_eq note n then with_client client (subscribers made n) else subscribers made n)
  subscribed-one note n reply to =
      subscribers-more made (record { client = client; call = Subscribe note; reply = reply; subscribed = to }) n
      ∙ elim (nat_eq note n) as (λ b. fold (λ ds c. with_client c ds) (subscribers made n) (if b then client ∷ [] else []) ≡ (if b then with_client client (subscribers made n) else subscribers made n)) [ true ↦ refl | false ↦ refl ]

  pub offered-one : (note : ℕ) (rows : List Row) (count c : ℕ) (to : List ℕ) → queue (made ++ record { client = client; call = Offer note rows; reply = Offered count; subscribed = to } ∷ []) c ≡ queue made c ++ (if list_any (nat_eq c) to then record { note = note; rows = rows } ∷ [] else [])
  offered-one note rows count c to = queue-more made (record { client = client; call = Offer note rows; reply = Offered count; subscribed = to }) c

  pub taken-one : (reply : NoteReply) (to : List ℕ) (c : ℕ) → queue (made ++ record { client = client; call = TakeNotes; reply = reply; subscribed = to } ∷ []) c ≡ (if nat_eq client c then [] else queue made c)
  taken-one reply to c =
      queue-more made (record { client = client; call = TakeNotes; reply = reply; subscribed = to }) c
      ∙ elim (nat_eq client c) as (λ b. (if b then [] else queue made c ++ []) ≡ (if b then [] else queue made c)) [ true ↦ refl | false ↦ append-nil (queue made c) ]
