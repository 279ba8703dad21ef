-- The base of a transaction that was begun: a commit that its domain has.
use Rattle.std.proofs.Common.{◌≡◌, ◌⊎◌, ℕ, zero, suc, ◌<◌, ◌≤◌, Bool, true, false, not, List, [], ◌∷◌, ◌++◌, length, map, Option, None, Some, refl, ap, sym, ◌∙◌, subst, arith, append-nil, length-append, inl, inr, if◌then◌else◌, nat_eq}
use Rattle.std.specs.Prelude.{slice_get, option_and_then, unwrap_or}
use Rattle.std.specs.Option.{option_map, option_or, option_to_list}
use Rattle.std.specs.List.{fold}
use Rattle.std.proofs.lemmas.Option.{same_Some}
use Rattle.sal_rows.specs.declared.outcome.CallFault.{CallFault}
use Rattle.sal_rows.specs.declared.outcome.CallFault.TheVariants.{ChainClosed, ChainFailed, NoDomain, PreviousOpen}
use Rattle.sal_rows.specs.declared.outcome.Outcome.{Outcome}
use Rattle.sal_history.specs.declared.call.Call.{Call}
use Rattle.sal_history.specs.declared.call.Call.TheVariants.{Begin, ChainBegin, Submit}
use Rattle.sal_history.specs.declared.call.Entry.{Entry}
use Rattle.sal_history.specs.declared.reply.Reply.{Reply}
use Rattle.sal_history.specs.declared.reply.Reply.TheVariants.{Begun, Receipt, Refused}
use Rattle.sal_history.specs.World.{Domain}
use Rattle.sal_history.specs.History.{Answered, answer, base_on, began_at, began_by, chain_refusal, chained_base, commits, decided_by, domain_of, failed_by, fault_if, has_open, history, is_closed, is_live, newest_base, nowhere, outcomes, refused_or, reply_to, sent_by, sents, stands_on}
use Rattle.sal_history.specs.Numbered.{numbered}
use Rattle.sal_history.specs.Submissions.{Base, Sent, done, if_done}
use Rattle.sal_hub.proofs.Histories.{now_of, outcomes-answer, sents-answer}
use Rattle.sal_hub.proofs.Listed.{last_or_before}
use Rattle.sal_hub.proofs.Living.{live_there}

-- a commit of a domain that there is
abbrev pub IsAt : List Domain → List Answered → Base → Type 0
IsAt world answered base = (base.domain < length world) × (base.commit ≤ length (commits answered base.domain))

-- ---- commits are never undone

done-more : (n : ℕ) (ss ts : List Sent) (os ps : List Outcome) → length (done n ss os) ≤ length (done n (ss ++ ts) (os ++ ps))
done-more n [] ts os ps = omega arith
done-more n (s ∷ ss) ts [] ps = omega arith
done-more n (s ∷ ss) ts (o ∷ os) ps =
    let own : List Sent = if nat_eq s.base.domain n then if_done o s else [] in
    omega (arith, done-more n ss ts os ps, length-append own (done n ss os), length-append own (done n (ss ++ ts) (os ++ ps)))

length-ops : (ss : List Sent) → length (map (λ (s : Sent). s.ops) ss) ≡ length ss
length-ops [] = refl
length-ops (s ∷ ss) = ap suc (length-ops ss)

pub commits-more : (world : List Domain) (answered : List Answered) (e : Entry) (n : ℕ) → length (commits answered n) ≤ length (commits (answer world answered e) n)
commits-more world answered e n =
    let ss : List Sent = option_to_list (sent_by answered e.call (reply_to world answered e.client e.call)) in
    let os : List Outcome = decided_by world answered e.call in
    let next : List Answered = answer world answered e in
    let same : length (commits next n) ≡ length (done n (sents answered ++ ss) (outcomes answered ++ os)) =
    length-ops (done n (sents next) (outcomes next)) ∙ (λ i. length (done n (sents-answer world answered e i) (outcomes-answer world answered e i))) in
    omega (arith, same, length-ops (done n (sents answered) (outcomes answered)), done-more n (sents answered) ss (outcomes answered) os)

later : (world : List Domain) (answered : List Answered) (e : Entry) (b : Base) → IsAt world answered b → IsAt world (answer world answered e) b
later world answered e b is = (is.0, omega (arith, commits-more world answered e b.domain, is.1))

-- ---- an accepted call is in a live domain

last_none : (a b c d : Option CallFault) → option_or a (option_or b (option_or c d)) ≡ None → d ≡ None
last_none None None None d e = e
last_none None None (Some x) d e = cc
last_none None (Some x) c d e = cc
last_none (Some x) b c d e = cc

unless_live : (b : Bool) (f : CallFault) → fault_if (not b) f ≡ None → b ≡ true
unless_live true f e = refl
unless_live false f e = cc

pub allowed_live : (world : List Domain) (answered : List Answered) (chain : ℕ) → chain_refusal world answered chain ≡ None → is_live world answered (domain_of answered chain) ≡ true
allowed_live world answered chain e =
    unless_live (is_live world answered (domain_of answered chain)) (NoDomain (domain_of answered chain))
    (last_none (fault_if (is_closed answered chain) ChainClosed) (option_map ChainFailed (failed_by answered chain)) (fault_if (has_open answered chain) PreviousOpen)
    (fault_if (not (is_live world answered (domain_of answered chain))) (NoDomain (domain_of answered chain))) e)

-- the base of what a call submits is that of its begin, if anything began
pub submitted_base : (answered : List Answered) (call : Call) (r : Reply) (s : Sent) → sent_by answered call r ≡ Some s → (place : ℕ) × (s.base ≡ unwrap_or (began_at answered place) nowhere)
submitted_base answered (Submit place ops) (Receipt n) s e = (place, ap (λ (t : Sent). t.base) (sym (same_Some (record { base = unwrap_or (began_at answered place) nowhere; ops = ops }) s e)))
submitted_base answered call r s e = cc

-- a transaction that was begun before one entry more, or by it
pub began_last : (xs : List Answered) (k : ℕ) (a : Answered) (c : Base) → began_at (xs ++ a ∷ []) k ≡ Some c → (began_at xs k ≡ Some c) ⊎ (a.began ≡ Some c)
began_last [] zero a c at = inr at
began_last [] (suc k) a c at = cc
began_last (x ∷ xs) zero a c at = inl at
began_last (x ∷ xs) (suc k) a c at = began_last xs k a c at

-- and so for a submission
pub sent_last : (xs : List Sent) (o : Option Sent) (k : ℕ) (t : Sent) → slice_get (xs ++ option_to_list o) k ≡ Some t → (slice_get xs k ≡ Some t) ⊎ (o ≡ Some t)
sent_last xs None k t at = inl (ap (λ (ys : List Sent). slice_get ys k) (sym (append-nil xs)) ∙ at)
sent_last xs (Some x) k t at = elim (last_or_before xs x t k at) [ inl old ↦ inl old | inr w ↦ inr (ap Some w.1) ]

-- ---- all logs

pub record AreAt (world : List Domain) (answered : List Answered) : Type 0 where
  pub begun : (place : ℕ) (b : Base) → began_at answered place ≡ Some b → IsAt world answered b
  pub sent : (i : ℕ) (s : Sent) → slice_get (sents answered) i ≡ Some s → IsAt world answered s.base

module _ (world : List Domain) (some : 0 < length world) (answered : List Answered) (was : AreAt world answered) where
  newest_at : (domain : ℕ) (chain : Option ℕ) → is_live world answered domain ≡ true → IsAt world answered (newest_base world answered domain chain)
  newest_at domain chain live = (live_there world some answered domain live, omega arith)

  on_at : (chain : ℕ) (o : Option Sent) → is_live world answered (domain_of answered chain) ≡ true → ((s : Sent) → o ≡ Some s → IsAt world answered s.base) → IsAt world answered (base_on world answered chain o)
  on_at chain None live each = newest_at (domain_of answered chain) (Some chain) live
  on_at chain (Some s) live each = each s refl

  found_at : (n : Option ℕ) (s : Sent) → option_and_then (λ k. numbered (sents answered) k) n ≡ Some s → IsAt world answered s.base
  found_at None s e = cc
  found_at (Some zero) s e = cc
  found_at (Some (suc i)) s e = was.sent i s e

  begun_now : (client : ℕ) (call : Call) (b : Base) → began_by world answered call (reply_to world answered client call) ≡ Some b → IsAt world answered b
  begun_now client (Begin domain mode) b =
      elim (is_live world answered domain) as (λ live. is_live world answered domain ≡ live → began_by world answered (Begin domain mode) (if live then Begun (length (commits answered domain)) None else Refused (NoDomain domain)) ≡ Some b → IsAt world answered b) [
        | true ↦ λ live e. subst (IsAt world answered) (same_Some (newest_base world answered domain None) b e) (newest_at domain None live)
        | false ↦ λ live e. cc
      ] refl
  begun_now client (ChainBegin chain mode) b =
      elim (chain_refusal world answered chain) as (λ o. chain_refusal world answered chain ≡ o → began_by world answered (ChainBegin chain mode) (refused_or o (Begun (chained_base world answered chain).commit (stands_on answered chain))) ≡ Some b → IsAt world answered b) [
        | None ↦ λ allowed e.
            subst (IsAt world answered) (same_Some (chained_base world answered chain) b e)
            (on_at chain (option_and_then (λ k. numbered (sents answered) k) (stands_on answered chain)) (allowed_live world answered chain allowed) (found_at (stands_on answered chain)))
        | Some f ↦ λ allowed e. cc
      ] refl
  begun_now client call b = λ e. cc

  sent_now : (client : ℕ) (call : Call) (s : Sent) → sent_by answered call (reply_to world answered client call) ≡ Some s → IsAt world answered s.base
  sent_now client call s e =
      let (place, from) = submitted_base answered call (reply_to world answered client call) s e in
      subst (IsAt world answered) (sym from) (given (began_at answered place) (was.begun place))
    where
      given : (o : Option Base) → ((b : Base) → o ≡ Some b → IsAt world answered b) → IsAt world answered (unwrap_or o nowhere)
      given None each = (some, omega arith)
      given (Some b) each = each b refl

  module _ (e : Entry) where
    abbrev next : List Answered
    next = answer world answered e

    begun_next : (place : ℕ) (b : Base) → began_at next place ≡ Some b → IsAt world next b
    begun_next place b is =
        elim (began_last answered place (now_of world answered e) b is) [
          | inl old ↦ later world answered e b (was.begun place b old)
          | inr new ↦ later world answered e b (begun_now e.client e.call b new)
        ]

    sent_next : (i : ℕ) (s : Sent) → slice_get (sents next) i ≡ Some s → IsAt world next s.base
    sent_next i s is =
        elim (sent_last (sents answered) (sent_by answered e.call (reply_to world answered e.client e.call)) i s (ap (λ (ss : List Sent). slice_get ss i) (sym (sents-answer world answered e)) ∙ is)) [
          | inl old ↦ later world answered e s.base (was.sent i s old)
          | inr new ↦ later world answered e s.base (sent_now e.client e.call s new)
        ]

    pub AreAt-answer : AreAt world (answer world answered e)
    AreAt-answer = record { begun = begun_next; sent = sent_next }

AreAt-fold : (world : List Domain) → 0 < length world → (answered : List Answered) (log : List Entry) → AreAt world answered → AreAt world (fold (answer world) answered log)
AreAt-fold world some answered [] was = was
AreAt-fold world some answered (e ∷ log) was = AreAt-fold world some (answer world answered e) log (AreAt-answer world some answered was e)

pub are_at : (world : List Domain) → 0 < length world → (log : List Entry) → AreAt world (history world log)
are_at world some log = AreAt-fold world some [] log (record { begun = λ place b is. cc; sent = λ i s is. cc })
