-- The answered log with one more entry.
use Rattle.std.proofs.Common.{◌≡◌, ℕ, ◌+◌, ◌<◌, ◌≤◌, Bool, true, false, List, [], ◌∷◌, ◌++◌, length, Option, None, Some, refl, ap, sym, ◌∙◌, arith, append-nil, length-append, if◌then◌else◌}
use Rattle.std.specs.Prelude.{option_and_then, slice_get, ◌||◌}
use Rattle.std.specs.Option.{option_or, option_to_list}
use Rattle.std.specs.List.{fold, list_any}
use Rattle.std.proofs.lemmas.Grind.{flat_map-append}
use Rattle.std.proofs.lemmas.List.Folds.{list_any-append}
use Rattle.std.proofs.lemmas.List.Sums.{fold-append}
use Rattle.std.proofs.lemmas.List.Elements.{filter_map-append}
use Rattle.sal_rows.specs.declared.outcome.Outcome.{Outcome}
use Rattle.sal_mount.specs.Mounts as mounts
use Rattle.sal_mount.specs.declared.call.MountCall.{MountCall}
use Rattle.sal_history.specs.declared.call.Entry.{Entry}
use Rattle.sal_history.specs.World.{Domain}
use Rattle.sal_history.specs.History.{Answered, answer, answered_as, began_at, begins_in, chain_domains, closes, decided_by, history, is_closed, is_live, is_marked, is_spent, last_begun, marks, opened_chain, outcomes, reply_to, sent_by, sents, spends}
use Rattle.sal_history.specs.Services.{mount_call, mounting, note_asked, note_calls, rpc_asked, rpc_calls}
use Rattle.sal_history.specs.Submissions.{Sent}
use Rattle.sal_hub.proofs.Listed.{found_more, slice_get_left, slice_get_seam}
use Rattle.sal_history.proofs.Logs.{last_from-push}
pub use Rattle.sal_types.proofs.Handy.{listed}

module _ (world : List Domain) where
  abbrev pub now_of : List Answered → Entry → Answered
  now_of answered e = answered_as world answered e (reply_to world answered e.client e.call)

  pub history-push : (log : List Entry) (e : Entry) → history world (log ++ e ∷ []) ≡ answer world (history world log) e
  history-push log e = fold-append (answer world) [] log (e ∷ [])

  pub sents-answer : (answered : List Answered) (e : Entry) → sents (answer world answered e) ≡ sents answered ++ option_to_list (sent_by answered e.call (reply_to world answered e.client e.call))
  sents-answer answered e =
      filter_map-append (λ (a : Answered). a.sent) answered (now_of answered e ∷ []) ∙ listed (sents answered) (sent_by answered e.call (reply_to world answered e.client e.call))

  chains-answer : (answered : List Answered) (e : Entry) → chain_domains (answer world answered e) ≡ chain_domains answered ++ option_to_list (opened_chain e.call (reply_to world answered e.client e.call))
  chains-answer answered e =
      filter_map-append (λ (a : Answered). opened_chain a.entry.call a.reply) answered (now_of answered e ∷ []) ∙ listed (chain_domains answered) (opened_chain e.call (reply_to world answered e.client e.call))

  pub outcomes-answer : (answered : List Answered) (e : Entry) → outcomes (answer world answered e) ≡ outcomes answered ++ decided_by world answered e.call
  outcomes-answer answered e = flat_map-append (λ (a : Answered). a.decided) answered (now_of answered e ∷ []) ∙ ap (λ (os : List Outcome). outcomes answered ++ os) (append-nil (decided_by world answered e.call))

  pub sents-push : (log : List Entry) (e : Entry) → sents (history world (log ++ e ∷ [])) ≡ sents (history world log) ++ option_to_list (sent_by (history world log) e.call (reply_to world (history world log) e.client e.call))
  sents-push log e = ap sents (history-push log e) ∙ sents-answer (history world log) e

  pub outcomes-push : (log : List Entry) (e : Entry) → outcomes (history world (log ++ e ∷ [])) ≡ outcomes (history world log) ++ decided_by world (history world log) e.call
  outcomes-push log e = ap outcomes (history-push log e) ∙ outcomes-answer (history world log) e

  pub spent-push : (log : List Entry) (e : Entry) (place : ℕ) → is_spent (history world (log ++ e ∷ [])) place ≡ (is_spent (history world log) place || spends e.call (reply_to world (history world log) e.client e.call) place)
  spent-push log e place =
      ap (λ (answered : List Answered). is_spent answered place) (history-push log e)
      ∙ list_any-append (λ (a : Answered). spends a.entry.call a.reply place) (history world log) (now_of (history world log) e ∷ [])
      ∙ elim (spends e.call (reply_to world (history world log) e.client e.call) place) as (λ b. (is_spent (history world log) place || (b || false)) ≡ (is_spent (history world log) place || b)) [ true ↦ refl | false ↦ refl ]

  pub chains-push : (log : List Entry) (e : Entry) → chain_domains (history world (log ++ e ∷ [])) ≡ chain_domains (history world log) ++ option_to_list (opened_chain e.call (reply_to world (history world log) e.client e.call))
  chains-push log e = ap chain_domains (history-push log e) ∙ chains-answer (history world log) e

  pub closed-push : (log : List Entry) (e : Entry) (id : ℕ) → is_closed (history world (log ++ e ∷ [])) id ≡ (is_closed (history world log) id || closes e.call (reply_to world (history world log) e.client e.call) id)
  closed-push log e id =
      ap (λ (answered : List Answered). is_closed answered id) (history-push log e)
      ∙ list_any-append (λ (a : Answered). closes a.entry.call a.reply id) (history world log) (now_of (history world log) e ∷ [])
      ∙ elim (closes e.call (reply_to world (history world log) e.client e.call) id) as (λ b. (is_closed (history world log) id || (b || false)) ≡ (is_closed (history world log) id || b)) [ true ↦ refl | false ↦ refl ]

  -- ---- domains that are live

  pub mounting-push : (log : List Entry) (e : Entry) → mounting (history world (log ++ e ∷ [])) ≡ mounting (history world log) ++ option_to_list (mount_call e.call)
  mounting-push log e =
      ap mounting (history-push log e) ∙ filter_map-append (λ (a : Answered). mount_call a.entry.call) (history world log) (now_of (history world log) e ∷ [])
      ∙ listed (mounting (history world log)) (mount_call e.call)

  -- a call that is none on mounts
  pub mounting-quiet : (log : List Entry) (e : Entry) → mount_call e.call ≡ None → mounting (history world (log ++ e ∷ [])) ≡ mounting (history world log)
  mounting-quiet log e none = mounting-push log e ∙ ap (λ (o : Option MountCall). mounting (history world log) ++ option_to_list o) none ∙ append-nil (mounting (history world log))

  pub live-quiet : (log : List Entry) (e : Entry) (n : ℕ) → mount_call e.call ≡ None → is_live world (history world (log ++ e ∷ [])) n ≡ is_live world (history world log) n
  live-quiet log e n none = ap (λ (calls : List MountCall). mounts.is_live (mounts.made_of (length world) calls) n) (mounting-quiet log e none)

  -- ---- calls on the router and on notifications

  pub rpc-push : (log : List Entry) (e : Entry) → rpc_calls (history world (log ++ e ∷ [])) ≡ rpc_calls (history world log) ++ option_to_list (rpc_asked e.client e.call)
  rpc-push log e =
      ap rpc_calls (history-push log e) ∙ filter_map-append (λ (a : Answered). rpc_asked a.entry.client a.entry.call) (history world log) (now_of (history world log) e ∷ [])
      ∙ listed (rpc_calls (history world log)) (rpc_asked e.client e.call)

  pub note-push : (log : List Entry) (e : Entry) → note_calls (history world (log ++ e ∷ [])) ≡ note_calls (history world log) ++ option_to_list (note_asked e.client e.call)
  note-push log e =
      ap note_calls (history-push log e) ∙ filter_map-append (λ (a : Answered). note_asked a.entry.client a.entry.call) (history world log) (now_of (history world log) e ∷ [])
      ∙ listed (note_calls (history world log)) (note_asked e.client e.call)

  -- ---- places

  length_answers : (done : List Answered) (log : List Entry) → length (fold (answer world) done log) ≡ length done + length log
  length_answers done [] = omega arith
  length_answers done (e ∷ log) = length_answers (answer world done e) log ∙ omega (arith, length-append done (now_of done e ∷ []))

  pub length-history : (log : List Entry) → length (history world log) ≡ length log
  length-history log = length_answers [] log ∙ omega arith

  pub began_at-push : (log : List Entry) (e : Entry) (place : ℕ) → place < length log → began_at (history world (log ++ e ∷ [])) place ≡ began_at (history world log) place
  began_at-push log e place h =
      let within : place < length (history world log) = omega (arith, length-history log, h) in
      ap (λ (a : List Answered). began_at a place) (history-push log e) ∙ ap (option_and_then (λ (a : Answered). a.began)) (slice_get_left (history world log) (now_of (history world log) e ∷ []) place within)

  -- a result for the entry at a place is the same in a longer log
  pub found-push : {X : Type 0} (f : Answered → Option X) (log : List Entry) (e : Entry) (place : ℕ) (x : X) → option_and_then f (slice_get (history world log) place) ≡ Some x → option_and_then f (slice_get (history world (log ++ e ∷ [])) place) ≡ Some x
  found-push f log e place x is =
      ap (λ (answered : List Answered). option_and_then f (slice_get answered place)) (history-push log e) ∙ found_more f (history world log) (now_of (history world log) e ∷ []) place x is

  -- the result for the last entry
  pub found-last : {X : Type 0} (f : Answered → Option X) (log : List Entry) (e : Entry) → option_and_then f (slice_get (history world (log ++ e ∷ [])) (length log)) ≡ f (now_of (history world log) e)
  found-last f log e =
      (λ i. option_and_then f (slice_get (history-push log e i) (sym (length-history log) i))) ∙ ap (option_and_then f) (slice_get_seam (history world log) (now_of (history world log) e) [])

  pub begun-push : (log : List Entry) (e : Entry) (id : ℕ) → last_begun (history world (log ++ e ∷ [])) id ≡ option_or (if begins_in id (now_of (history world log) e) then Some (length log) else None) (last_begun (history world log) id)
  begun-push log e id =
      ap (λ (answered : List Answered). last_begun answered id) (history-push log e)
      ∙ last_from-push 0 (begins_in id) (history world log) (now_of (history world log) e)
      ∙ ap (λ n. option_or (if begins_in id (now_of (history world log) e) then Some n else None) (last_begun (history world log) id)) (let long : 0 + length (history world log) ≡ length log = omega (arith, length-history log) in long)

  pub sents-grow : (log : List Entry) (e : Entry) → length (sents (history world log)) ≤ length (sents (history world (log ++ e ∷ [])))
  sents-grow log e =
      let sent : List Sent = option_to_list (sent_by (history world log) e.call (reply_to world (history world log) e.client e.call)) in
      omega (arith, ap length (sents-push log e), length-append (sents (history world log)) sent)

  -- an entry submits once at most
  sent_once : (o : Option Sent) → length (option_to_list o) ≤ 1
  sent_once None = omega arith
  sent_once (Some s) = omega arith

  sents_few : (done : List Answered) (log : List Entry) → length (sents (fold (answer world) done log)) ≤ length (sents done) + length log
  sents_few done [] = omega arith
  sents_few done (e ∷ log) =
      let sent : Option Sent = sent_by done e.call (reply_to world done e.client e.call) in
      omega (arith, sents_few (answer world done e) log, ap length (sents-answer done e), length-append (sents done) (option_to_list sent), sent_once sent)

  pub sents-few : (log : List Entry) → length (sents (history world log)) ≤ length log
  sents-few log = omega (arith, sents_few [] log)

  -- ---- marks

  marked_in : (done : List Answered) (log : List Entry) (mark : ℕ) → is_marked (fold (answer world) done log) mark ≡ (is_marked done mark || list_any (λ e. marks e.call mark) log)
  marked_in done [] mark = elim (is_marked done mark) as (λ b. b ≡ (b || false)) [ true ↦ refl | false ↦ refl ]
  marked_in done (e ∷ log) mark =
      marked_in (answer world done e) log mark
      ∙ ap (λ b. b || list_any (λ x. marks x.call mark) log) (list_any-append (λ (a : Answered). marks a.entry.call mark) done (now_of done e ∷ []))
      ∙ assoc (is_marked done mark) (marks e.call mark) (list_any (λ x. marks x.call mark) log)
    where
      assoc : (x y z : Bool) → ((x || (y || false)) || z) ≡ (x || (y || z))
      assoc true y z = refl
      assoc false true z = refl
      assoc false false z = refl

  pub marked : (log : List Entry) (mark : ℕ) → is_marked (history world log) mark ≡ list_any (λ e. marks e.call mark) log
  marked log mark = marked_in [] log mark
