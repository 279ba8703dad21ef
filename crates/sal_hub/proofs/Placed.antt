-- Transactions of a chain stay in the domain of the chain.
use Rattle.std.proofs.Common.{◌≡◌, ℕ, List, [], ◌∷◌, ◌++◌, Option, None, Some, refl, ap, sym, ◌∙◌, subst, inl, inr}
use Rattle.std.specs.Prelude.{slice_get, unwrap_or}
use Rattle.std.specs.Option.{option_to_list}
use Rattle.sal_history.specs.declared.call.Entry.{Entry}
use Rattle.sal_history.specs.World.{Domain}
use Rattle.sal_history.specs.History.{Answered, began_at, began_by, chain_domains, history, nowhere, opened_chain, reply_to, sent_by, sents}
use Rattle.sal_history.specs.Submissions.{Base, Sent}
use Rattle.sal_history.specs.Numbered.{numbered}
use Rattle.sal_history.proofs.Numbered.{numbered-more}
use Rattle.sal_hub.specs.Chains.{AreInPlace, IsInPlace}
use Rattle.sal_hub.proofs.Histories.{chains-push, history-push, now_of, sents-push}
use Rattle.sal_hub.proofs.Standing.{began_last, sent_last, submitted_base}

module _ (world : List Domain) (log : List Entry) (e : Entry) (was : AreInPlace (history world log)) where
  abbrev before : List Answered
  before = history world log

  abbrev after : List Answered
  after = history world (log ++ e ∷ [])

  still : (b : Base) → IsInPlace before b → IsInPlace after b
  still b own = λ id of_chain.
      ap (λ (ds : List ℕ). numbered ds id) (chains-push world log e)
      ∙ numbered-more (chain_domains before) (option_to_list (opened_chain e.call (reply_to world before e.client e.call))) id b.domain (own id of_chain)

  submitted : (s : Sent) → sent_by before e.call (reply_to world before e.client e.call) ≡ Some s → IsInPlace before s.base
  submitted s is =
      let (place, from) = submitted_base before e.call (reply_to world before e.client e.call) s is in
      subst (IsInPlace before) (sym from) (given (began_at before place) (was.begun place))
    where
      given : (o : Option Base) → ((b : Base) → o ≡ Some b → IsInPlace before b) → IsInPlace before (unwrap_or o nowhere)
      given None each = λ id of_chain. cc
      given (Some b) each = each b refl

  pub places_now : ((b : Base) → began_by world (history world log) e.call (reply_to world (history world log) e.client e.call) ≡ Some b → IsInPlace (history world log) b) → AreInPlace (history world (log ++ e ∷ []))
  places_now begins = record {
    begun = λ place b is. elim (began_last before place (now_of world before e) b (ap (λ (answered : List Answered). began_at answered place) (sym (history-push world log e)) ∙ is)) [
      | inl old ↦ still b (was.begun place b old)
      | inr new ↦ still b (begins b new)
    ];
    sent = λ i s is. elim (sent_last (sents before) (sent_by before e.call (reply_to world before e.client e.call)) i s (ap (λ (ss : List Sent). slice_get ss i) (sym (sents-push world log e)) ∙ is)) [
      | inl old ↦ still s.base (was.sent i s old)
      | inr new ↦ still s.base (submitted s new)
    ];
  }
