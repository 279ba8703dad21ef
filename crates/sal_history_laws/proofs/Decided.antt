-- Each outcome of a log is a decision over the outcomes before it.
use Rattle.std.proofs.Common.{◌≡◌, ℕ, zero, suc, ◌-◌, ◌<◌, ◌≤◌, Bool, List, [], ◌∷◌, ◌++◌, length, map, take, Option, None, Some, refl, ap, sym, ◌∙◌, subst, arith, inl, inr, append-nil, append_assoc}
use Rattle.std.specs.Prelude.{slice_get, unwrap_or}
use Rattle.std.specs.List.{fold}
use Rattle.std.specs.Option.{option_map, option_or, option_to_list}
use Rattle.std.proofs.lemmas.List.{length-take, take-append-le}
use Rattle.std.proofs.lemmas.Option.{none-some, same_Some, slice_get_within}
use Rattle.std.proofs.Math.Seq.{take-append_seam}
use Rattle.sal_types.proofs.Lists.{last_or_before}
use Rattle.sal_rows.specs.Spans.{spans}
use Rattle.sal_rows.specs.declared.outcome.Outcome.{Outcome}
use Rattle.sal_rows.specs.declared.outcome.Outcome.TheVariants.{ChainFailed as FailedBy}
use Rattle.sal_schema.specs.declared.table.SchemaTable.{SchemaTable}
use Rattle.sal_history.specs.declared.call.Call.{Call}
use Rattle.sal_history.specs.declared.call.Call.TheVariants.{Pump, Settle}
use Rattle.sal_history.specs.declared.call.Entry.{Entry}
use Rattle.sal_history.specs.declared.reply.Reply.{Reply}
use Rattle.sal_history.specs.Answered.{Answered}
use Rattle.sal_history.specs.History.{answer, answered_as, decide_front, decide_next, decided_by, history, is_live, outcome, outcomes, reply_to, sent_by, sents, unmounted_of}
use Rattle.sal_history.specs.Outcome.{decide}
use Rattle.sal_history.specs.Submissions.{Sent, done, failing}
use Rattle.sal_history.specs.Versions.{tables_now}
use Rattle.sal_history.specs.World.{Domain, opening_of, rules_of}
use Rattle.sal_history.proofs.Logs.{IsSound, IsSound-answer, IsSound-nothing}
use Rattle.sal_history.proofs.Unbroken.{outcomes-push, sents-push}
use Rattle.sal_history.proofs.Waiting.{done-more, failing-more}

module _ (world : List Domain) where
  -- by some tables, while some domains are live
  abbrev pub IsDecision : List Sent → List Outcome → Sent → Outcome → Type 0
  IsDecision ss os s o = (tables : ℕ → SchemaTable) × (live : ℕ → Bool) × (outcome world tables live ss os s ≡ o)

  abbrev pub AreDecided : List Sent → List Outcome → Type 0
  AreDecided ss os = (i : ℕ) (s : Sent) (o : Outcome) → slice_get ss i ≡ Some s → slice_get os i ≡ Some o → IsDecision ss (take i os) s o

  -- ---- one outcome more

  decide-decided : (tables : ℕ → SchemaTable) (live : ℕ → Bool) (ss : List Sent) (os : List Outcome) (s : Sent) → slice_get ss (length os) ≡ Some s → AreDecided ss os → AreDecided ss (os ++ outcome world tables live ss os s ∷ [])
  decide-decided tables live ss os s next was i t o at is =
      let new = outcome world tables live ss os s in
      elim (last_or_before os new o i is) [
        | inl old ↦
            let inside : i < length os = slice_get_within os i o old in
            let front : take i (os ++ new ∷ []) ≡ take i os = take-append-le i os (new ∷ []) (omega (arith, inside)) in
            subst (λ (ps : List Outcome). IsDecision ss ps t o) (sym front) (was i t o at old)
        | inr w ↦
            let same : s ≡ t = same_Some s t (sym next ∙ ap (slice_get ss) (sym w.0) ∙ at) in
            let front : take i (os ++ new ∷ []) ≡ os = ap (λ k. take k (os ++ new ∷ [])) w.0 ∙ take-append_seam os (new ∷ []) in
            subst (λ (ps : List Outcome). IsDecision ss ps t o) (sym front) (subst (λ (u : Sent). IsDecision ss os u o) same (tables, live, w.1))
      ]

  front-decided : (tables : ℕ → SchemaTable) (live : ℕ → Bool) (ss : List Sent) (os : List Outcome) → AreDecided ss os → (next : Option Sent) → slice_get ss (length os) ≡ next → AreDecided ss (os ++ decide_front world tables live ss os next)
  front-decided tables live ss os was None at = subst (AreDecided ss) (sym (append-nil os)) was
  front-decided tables live ss os was (Some s) at = decide-decided tables live ss os s at was

  next-decided : (tables : ℕ → SchemaTable) (live : ℕ → Bool) (n : ℕ) (ss : List Sent) (os : List Outcome) → AreDecided ss os → AreDecided ss (os ++ decide_next world tables live ss os n)
  next-decided tables live zero ss os was = subst (AreDecided ss) (sym (append-nil os)) was
  next-decided tables live (suc n) ss os was =
      let front = decide_front world tables live ss os (slice_get ss (length os)) in
      subst (AreDecided ss) (append_assoc os front (decide_next world tables live ss (os ++ front) n)) (next-decided tables live n ss (os ++ front) (front-decided tables live ss os was (slice_get ss (length os)) refl))

  -- ---- one submission more

  -- a decision depends only on the receipt by which the chain failed and on the commits of the domain
  abbrev by_parts : (ℕ → SchemaTable) → (ℕ → Bool) → Sent → Option ℕ → List Sent → Outcome
  by_parts tables live s failed ds =
      unwrap_or (option_or (option_map FailedBy failed) (unmounted_of (live s.base.domain) s.base.domain))
      (decide (tables s.base.domain) (opening_of world s.base.domain) (map (λ (x : Sent). x.ops) ds) (rules_of world s.base.domain) s.base.trees (spans s.base.commit s.base.chain (map (λ (x : Sent). x.base.chain) ds)) s.ops)

  sent-decided : (ss : List Sent) (os : List Outcome) (more : Option Sent) → length os ≤ length ss → AreDecided ss os → AreDecided (ss ++ option_to_list more) os
  sent-decided ss os None within was = subst (λ (ts : List Sent). AreDecided ts os) (sym (append-nil ss)) was
  sent-decided ss os (Some s) within was = λ i t o at is.
      let decided : i < length os = slice_get_within os i o is in
      let brief : length (take i os) ≤ length ss = omega (arith, length-take i os, within) in
      let old : slice_get ss i ≡ Some t = elim (last_or_before ss s t i at) [ inl old ↦ old | inr w ↦ absurd (omega (arith, w.0, decided, within)) ] in
      let (tables, live, e) = was i t o old is in
      let failed : failing t.base.chain (ss ++ s ∷ []) (take i os) ≡ failing t.base.chain ss (take i os) = failing-more 1 t.base.chain ss s (take i os) brief in
      let commits : done t.base.domain (ss ++ s ∷ []) (take i os) ≡ done t.base.domain ss (take i os) = done-more t.base.domain ss s (take i os) brief in
      let same : outcome world tables live (ss ++ s ∷ []) (take i os) t ≡ outcome world tables live ss (take i os) t = λ k. by_parts tables live t (failed k) (commits k) in
      (tables, live, same ∙ e)

  -- ---- one entry more

  abbrev KeepsDecided : List Answered → Type 0
  KeepsDecided answered = AreDecided (sents answered) (outcomes answered)

  module _ (answered : List Answered) (e : Entry) (sound : IsSound world answered) (was : KeepsDecided answered) where
    abbrev reply : Reply
    reply = reply_to world answered e.client e.call

    abbrev now : Answered
    now = answered_as world answered e reply

    unsent : (os : List Outcome) → AreDecided (sents answered) os → AreDecided (sents answered ++ []) os
    unsent os are = subst (λ (ss : List Sent). AreDecided ss os) (sym (append-nil (sents answered))) are

    call-decided : (call : Call) (r : Reply) → AreDecided (sents answered ++ option_to_list (sent_by answered call r)) (outcomes answered ++ decided_by world answered call)
    call-decided (Settle receipt) r =
        unsent (outcomes answered ++ decided_by world answered (Settle receipt)) (next-decided (tables_now world answered) (is_live world answered) (receipt - length (outcomes answered)) (sents answered) (outcomes answered) was)
    call-decided Pump r = unsent (outcomes answered ++ decided_by world answered Pump) (next-decided (tables_now world answered) (is_live world answered) 1 (sents answered) (outcomes answered) was)
    call-decided call r =
        subst (AreDecided (sents answered ++ option_to_list (sent_by answered call r))) (sym (append-nil (outcomes answered)))
        (sent-decided (sents answered) (outcomes answered) (sent_by answered call r) sound.known.within was)

    answer-decided : KeepsDecided (answer world answered e)
    answer-decided =
        subst (λ (ss : List Sent). AreDecided ss (outcomes (answered ++ now ∷ []))) (sym (sents-push answered now))
        (subst (AreDecided (sents answered ++ option_to_list (sent_by answered e.call reply))) (sym (outcomes-push answered now)) (call-decided e.call reply))

  -- ---- all entries

  fold-decided : (answered : List Answered) (log : List Entry) → IsSound world answered → KeepsDecided answered → KeepsDecided (fold (answer world) answered log)
  fold-decided answered [] sound was = was
  fold-decided answered (e ∷ log) sound was = fold-decided (answer world answered e) log (IsSound-answer world answered sound e) (answer-decided answered e sound was)

  pub decided : (log : List Entry) → KeepsDecided (history world log)
  decided log = fold-decided [] log (IsSound-nothing world) (λ i s o at is. absurd (none-some s at))
