-- The answered log of a load with one more entry.
use Rattle.std.proofs.Common.{◌≡◌, ℕ, ◌+◌, Bool, false, ◌||◌, List, [], ◌∷◌, ◌++◌, length, ap, ◌∙◌, arith, append-nil, length-append}
use Rattle.std.specs.List.{fold}
use Rattle.std.specs.Option.{option_to_list}
use Rattle.std.proofs.lemmas.Grind.{flat_map-append}
use Rattle.std.proofs.lemmas.List.Elements.{filter_map-append}
use Rattle.std.proofs.lemmas.List.Folds.{list_any-append}
use Rattle.std.proofs.lemmas.List.Sums.{fold-append}
use Rattle.sal_rows.specs.declared.outcome.Outcome.{Outcome}
use Rattle.sal_history.specs.declared.call.Entry.{Entry}
use Rattle.sal_history.specs.History.{Answered, answer, answered_as, decided_by, history, is_spent, outcomes, reply_to, sent_by, sents, spends}
use Rattle.sal_script_laws.specs.Rounds.{load_world}
use Rattle.sal_types.proofs.Handy.{listed}
pub use Rattle.sal_script.proofs.Followed.{get_last}

-- an entry with its answer
abbrev pub now_of : List Answered → Entry → Answered
now_of answered e = answered_as load_world answered e (reply_to load_world answered e.client e.call)

-- the entries with one more
abbrev pub more_of : List Answered → Entry → List Answered
more_of answered e = answered ++ now_of answered e ∷ []

pub history-push : (log : List Entry) (e : Entry) → history load_world (log ++ e ∷ []) ≡ more_of (history load_world log) e
history-push log e = fold-append (answer load_world) [] log (e ∷ [])

length_answers : (done : List Answered) (log : List Entry) → length (fold (answer load_world) done log) ≡ length done + length log
length_answers done [] = omega arith
length_answers done (e ∷ log) = length_answers (answer load_world done e) log ∙ omega (arith, length-append done (now_of done e ∷ []))

pub length-history : (log : List Entry) → length (history load_world log) ≡ length log
length-history log = length_answers [] log ∙ omega arith

module _ (answered : List Answered) (e : Entry) where
  pub sents-more : sents (more_of answered e) ≡ sents answered ++ option_to_list (sent_by answered e.call (reply_to load_world answered e.client e.call))
  sents-more = filter_map-append (λ (a : Answered). a.sent) answered (now_of answered e ∷ []) ∙ listed (sents answered) (sent_by answered e.call (reply_to load_world answered e.client e.call))

  pub outcomes-more : outcomes (more_of answered e) ≡ outcomes answered ++ decided_by load_world answered e.call
  outcomes-more = flat_map-append (λ (a : Answered). a.decided) answered (now_of answered e ∷ []) ∙ ap (λ (os : List Outcome). outcomes answered ++ os) (append-nil (decided_by load_world answered e.call))

  -- a transaction that was not spent, and is not by this call
  pub still_free : (place : ℕ) → is_spent answered place ≡ false → spends e.call (reply_to load_world answered e.client e.call) place ≡ false → is_spent (more_of answered e) place ≡ false
  still_free place free kept =
      list_any-append (λ (a : Answered). spends a.entry.call a.reply place) answered (now_of answered e ∷ [])
      ∙ ap (λ (b : Bool). b || (spends e.call (reply_to load_world answered e.client e.call) place || false)) free
      ∙ ap (λ (b : Bool). b || false) kept
