-- The notifications that a client takes over a whole log are those offered to it.
use Rattle.std.proofs.Common.{◌≡◌, ℕ, zero, suc, Bool, true, false, ◌&&◌, List, [], ◌∷◌, ◌++◌, length, take, Option, None, Some, refl, ap, sym, ◌∙◌, subst, cond, arith, inl, inr, append-nil, append_assoc, if◌then◌else◌, nat_eq}
use Rattle.std.specs.Prelude.{slice_get}
use Rattle.std.specs.List.{cons_option, flat_map}
use Rattle.std.proofs.lemmas.Bool.{eqb-true, and_parts}
use Rattle.std.proofs.lemmas.Grind.{flat_map-append}
use Rattle.std.proofs.lemmas.List.{take_all}
use Rattle.std.proofs.lemmas.List.Elements.{filter_map-append}
use Rattle.std.proofs.lemmas.List.Sums.{fold-append}
use Rattle.sal_note.specs.declared.call.Note.{Note}
use Rattle.sal_note.specs.declared.call.NoteCall.{NoteCall}
use Rattle.sal_note.specs.declared.call.NoteCall.TheVariants as notes
use Rattle.sal_note.specs.Queues.{Asked, Made, brings, make, made_of, queue, reply_to as replies, subscribed_to, takes}
use Rattle.sal_history.specs.declared.call.Call.{Call}
use Rattle.sal_history.specs.declared.call.Call.TheVariants.{TakeNotes}
use Rattle.sal_history.specs.declared.reply.Reply.{Reply}
use Rattle.sal_history.specs.Services.{note_asked, note_calls, noted}
use Rattle.sal_history.specs.ServiceLaws.{TakenOnceInOrder, given, offered_to, taken_by}
use Rattle.sal_history.specs.World.{Domain}
use Rattle.sal_history.specs.History.{Answered, history, reply_to}
use Rattle.sal_history.proofs.Placed.{AreAnswered, are_answered, take_next, there_or_not}

-- ---- one call on notifications more

-- the notifications that the client takes by the call
abbrev takes_by : ℕ → List Made → Asked → List Note
takes_by client made asked = if takes asked.call && nat_eq asked.client client then queue made client else []

abbrev brought : ℕ → List Made → List Note
brought client made = flat_map (λ (m : Made). brings client m.call m.reply m.subscribed) made

-- those taken and those waiting after the call are those waiting before it and the new ones
module _ (made : List Made) (asked : Asked) (client : ℕ) where
  abbrev one : Made
  one = record { client = asked.client; call = asked.call; reply = replies made asked.client asked.call; subscribed = subscribed_to made asked.call }

  queue-more : queue (make made asked) client ≡ (if takes asked.call && nat_eq asked.client client then [] else queue made client ++ brings client one.call one.reply one.subscribed)
  queue-more = fold-append (λ (ns : List Note) (m : Made). if takes m.call && nat_eq m.client client then [] else ns ++ brings client m.call m.reply m.subscribed) [] made (one ∷ [])

  brought-more : brought client (make made asked) ≡ brought client made ++ brings client one.call one.reply one.subscribed
  brought-more =
      flat_map-append (λ (m : Made). brings client m.call m.reply m.subscribed) made (one ∷ [])
      ∙ ap (λ (ns : List Note). brought client made ++ ns) (append-nil (brings client one.call one.reply one.subscribed))

-- a take adds no notification
nothing_brought : (client : ℕ) (made : List Made) (asked : Asked) → takes asked.call ≡ true → brings client asked.call (replies made asked.client asked.call) (subscribed_to made asked.call) ≡ []
nothing_brought client made asked e = by asked.call e
  where
    by : (call : NoteCall) → takes call ≡ true → brings client call (replies made asked.client call) (subscribed_to made call) ≡ []
    by notes.TakeNotes e = refl
    by (notes.Subscribe note) e = refl
    by (notes.Offer note rows) e = cc

balanced-more : (made : List Made) (asked : Asked) (client : ℕ) (before : List Note) → before ++ queue made client ≡ brought client made
    → (before ++ takes_by client made asked) ++ queue (make made asked) client ≡ brought client (make made asked)
balanced-more made asked client before was =
    let bring : List Note = brings client asked.call (replies made asked.client asked.call) (subscribed_to made asked.call) in
    ap (λ (q : List Note). (before ++ takes_by client made asked) ++ q) (queue-more made asked client)
    ∙ by (takes asked.call && nat_eq asked.client client) refl
    ∙ ap (λ (ns : List Note). ns ++ bring) was
    ∙ sym (brought-more made asked client)
  where
    by : (b : Bool) → (takes asked.call && nat_eq asked.client client) ≡ b
        → (before ++ (if b then queue made client else [])) ++ (if b then [] else queue made client ++ brings client asked.call (replies made asked.client asked.call) (subscribed_to made asked.call))
        ≡ (before ++ queue made client) ++ brings client asked.call (replies made asked.client asked.call) (subscribed_to made asked.call)
    by true e =
        append-nil (before ++ queue made client)
        ∙ sym (append-nil (before ++ queue made client))
        ∙ ap (λ (ns : List Note). (before ++ queue made client) ++ ns) (sym (nothing_brought client made asked (and_parts (takes asked.call) (nat_eq asked.client client) e).0))
    by false e =
        ap (λ (ns : List Note). ns ++ (queue made client ++ brings client asked.call (replies made asked.client asked.call) (subscribed_to made asked.call))) (append-nil before)
        ∙ sym (append_assoc before (queue made client) (brings client asked.call (replies made asked.client asked.call) (subscribed_to made asked.call)))

-- ---- one entry more

abbrev grown : List Made → Option Asked → List Made
grown made None = made
grown made (Some asked) = make made asked

noted-more : (h : List Answered) (a : Answered) → noted (h ++ a ∷ []) ≡ grown (noted h) (note_asked a.entry.client a.entry.call)
noted-more h a =
    let calls : List Asked = note_calls h in
    ap made_of (filter_map-append (λ (x : Answered). note_asked x.entry.client x.entry.call) h (a ∷ []))
    ∙ elim (note_asked a.entry.client a.entry.call) as (λ (o : Option Asked). made_of (calls ++ cons_option o []) ≡ grown (made_of calls) o) [
      | None ↦ ap made_of (append-nil calls)
      | Some asked ↦ fold-append make [] calls (asked ∷ [])
    ]

-- the notifications that the client takes by the entry
abbrev takes_in : ℕ → List Made → Option Asked → List Note
takes_in client made None = []
takes_in client made (Some asked) = takes_by client made asked

module _ (world : List Domain) (h : List Answered) (are : AreAnswered world h) (client : ℕ) where
  abbrev none : List Note
  none = []

  abbrev taken_all : List Answered → List Note
  taken_all answered = flat_map (taken_by client) answered

  nothing : (b : Bool) → cond b none none ≡ none
  nothing true = refl
  nothing false = refl

  -- an entry gives what its call on notifications takes
  gives : (before : List Answered) (by : ℕ) (call : Call) → (if nat_eq by client then given call (reply_to world before by call) else []) ≡ takes_in client (noted before) (note_asked by call)
  gives before by TakeNotes = own (nat_eq by client) refl
    where
      own : (b : Bool) → nat_eq by client ≡ b → cond b (queue (noted before) by) none ≡ cond b (queue (noted before) client) none
      own true e = ap (queue (noted before)) (eqb-true by client e)
      own false e = refl
  gives before by call = nothing (nat_eq by client)

  balanced : (n : ℕ) → taken_all (take n h) ++ queue (noted (take n h)) client ≡ offered_to client (take n h)
  balanced zero = refl
  balanced (suc n) = elim (there_or_not h n (slice_get h n) refl) [
    | inr same ↦ subst (λ (b : List Answered). taken_all b ++ queue (noted b) client ≡ offered_to client b) (sym same) (balanced n)
    | inl w ↦
        let a : Answered = w.0 in
        let before : List Answered = take n h in
        let now = noted-more before a in
        let asked = note_asked a.entry.client a.entry.call in
        let more : taken_all (before ++ a ∷ []) ≡ taken_all before ++ takes_in client (noted before) asked =
        flat_map-append (taken_by client) before (a ∷ [])
        ∙ ap (λ (ns : List Note). taken_all before ++ ns) (append-nil (taken_by client a)
        ∙ ap (λ (r : Reply). if nat_eq a.entry.client client then given a.entry.call r else []) (are n a w.1)
        ∙ gives before a.entry.client a.entry.call) in
        subst (λ (b : List Answered). taken_all b ++ queue (noted b) client ≡ offered_to client b) (sym (take_next n h a w.1))
        ((λ i. more i ++ queue (now i) client) ∙ grows (taken_all before) (noted before) asked (balanced n) ∙ ap (brought client) (sym now))
  ]
    where
      grows : (before : List Note) (made : List Made) (o : Option Asked) → before ++ queue made client ≡ brought client made → (before ++ takes_in client made o) ++ queue (grown made o) client ≡ brought client (grown made o)
      grows before made None was = ap (λ (ns : List Note). ns ++ queue made client) (append-nil before) ∙ was
      grows before made (Some asked) was = balanced-more made asked client before was

pub taken-once-in-order : TakenOnceInOrder
taken-once-in-order world log client =
    let h : List Answered = history world log in
    let all : take (length h) h ≡ h = take_all (length h) h (omega arith) in
    subst (λ (b : List Answered). flat_map (taken_by client) b ++ queue (noted b) client ≡ offered_to client b) all (balanced world h (are_answered world log) client (length h))
