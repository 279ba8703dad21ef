-- The newest trees break no rule of the present version, in each log; and upgrades go one by one.
use Rattle.std.proofs.Common.{◌≡◌, ℕ, zero, suc, ◌+◌, ◌-◌, ◌≤◌, Bool, true, false, List, [], ◌∷◌, ◌++◌, length, map, take, Option, None, Some, refl, ap, sym, ◌∙◌, subst, append-nil, append_assoc}
use Rattle.std.specs.Prelude.{slice_get, nat_eq}
use Rattle.std.specs.List.{cons_option, fold}
use Rattle.std.specs.Option.{option_to_list}
use Rattle.std.proofs.lemmas.Bool.{cond_both, eqb-true}
use Rattle.std.proofs.lemmas.Grind.{flat_map-append}
use Rattle.std.proofs.lemmas.List.{map-append}
use Rattle.std.proofs.lemmas.List.Elements.{filter_map-append}
use Rattle.sal_types.specs.declared.value.Store.{Store}
use Rattle.sal_rows.specs.declared.op.Op.{Op}
use Rattle.sal_rows.specs.declared.outcome.Outcome.{Outcome}
use Rattle.sal_rows.specs.declared.outcome.Outcome.TheVariants.{ChainFailed as FailedBy, Conflict, Done, Invalid, Unmounted}
use Rattle.sal_rows.specs.Commits.{tree_after}
use Rattle.sal_schema.specs.declared.table.SchemaTable.{SchemaTable}
use Rattle.sal_rules.specs.Breaches.{breach}
use Rattle.sal_history.specs.declared.call.Call.{Call}
use Rattle.sal_history.specs.declared.call.Call.TheVariants.{Pump, Settle, Upgrade}
use Rattle.sal_history.specs.declared.call.Entry.{Entry}
use Rattle.sal_history.specs.declared.reply.Reply.{Reply}
use Rattle.sal_history.specs.declared.reply.Reply.TheVariants.{Accepted}
use Rattle.sal_history.specs.Answered.{Answered}
use Rattle.sal_history.specs.History.{answer, answered_as, decide_front, decide_next, decided_by, history, is_live, outcome, outcomes, reply_to, sent_by, sents}
use Rattle.sal_history.specs.Submissions.{Sent, done, if_done, is_done}
use Rattle.sal_history.specs.VersionLaws.{NewestTreesKeepTheRules, UpgradesGoOneByOne}
use Rattle.sal_history.specs.Versions.{schema_version, tables_now, upgraded}
use Rattle.sal_history.specs.World.{Domain, OneIsUpgraded, opening_of, table_of}
use Rattle.sal_history.proofs.Decisions.{unbroken}
use Rattle.sal_history.proofs.Logs.{IsSound, IsSound-answer, IsSound-nothing}
use Rattle.sal_history.proofs.Placed.{are_answered, take_next}
use Rattle.sal_history.proofs.Versions.{IsGoodUpgrade, good-upgrade, one-table, schema_version-next, tables-same}
use Rattle.sal_history.proofs.Waiting.{done-more, done-next}

pub done_is : (o : Outcome) → is_done o ≡ true → (n : ℕ) × (o ≡ Done n)
done_is (Done n) e = (n, refl)
done_is (Conflict store path kind commit) e = cc
done_is (Invalid store path rule) e = cc
done_is (FailedBy receipt) e = cc
done_is (Unmounted domain) e = cc

pub sents-push : (answered : List Answered) (now : Answered) → sents (answered ++ now ∷ []) ≡ sents answered ++ option_to_list now.sent
sents-push answered now =
    filter_map-append (λ (a : Answered). a.sent) answered (now ∷ [])
    ∙ elim now.sent as (λ (o : Option Sent). sents answered ++ cons_option o [] ≡ sents answered ++ option_to_list o) [ None ↦ refl | Some s ↦ refl ]

pub outcomes-push : (answered : List Answered) (now : Answered) → outcomes (answered ++ now ∷ []) ≡ outcomes answered ++ now.decided
outcomes-push answered now = flat_map-append (λ (a : Answered). a.decided) answered (now ∷ []) ∙ ap (λ (ps : List Outcome). outcomes answered ++ ps) (append-nil now.decided)

module _ (world : List Domain) where
  -- the trees of a domain after these submissions, which were done, break no rule of the table
  abbrev IsUnbroken : SchemaTable → ℕ → List Sent → Type 0
  IsUnbroken table domain ds = (t : Store) → breach table t (tree_after t (opening_of world domain t) (map (λ s. s.ops) ds)) ≡ None

  abbrev AreUnbroken : (ℕ → SchemaTable) → List Sent → List Outcome → Type 0
  AreUnbroken tables ss os = (domain : ℕ) → IsUnbroken (tables domain) domain (done domain ss os)

  -- ---- decisions

  module _ (tables : ℕ → SchemaTable) (live : ℕ → Bool) where
    decide-unbroken : (ss : List Sent) (os : List Outcome) (s : Sent) → slice_get ss (length os) ≡ Some s → AreUnbroken tables ss os → AreUnbroken tables ss (os ++ outcome world tables live ss os s ∷ [])
    decide-unbroken ss os s next was domain =
        let o = outcome world tables live ss os s in
        subst (IsUnbroken (tables domain) domain) (sym (done-next domain ss s os o next))
        (cond_both (nat_eq s.base.domain domain) (if_done o s) [] (λ (more : List Sent). IsUnbroken (tables domain) domain (done domain ss os ++ more))
        (λ mine.
        cond_both (is_done o) (s ∷ []) [] (λ (more : List Sent). IsUnbroken (tables domain) domain (done domain ss os ++ more))
        (λ made.
        let (commit, is) = done_is o made in
        let same : s.base.domain ≡ domain = eqb-true s.base.domain domain mine in
        subst (λ d. IsUnbroken (tables d) d (done d ss os ++ s ∷ [])) same
        (λ t.
        let own = s.base.domain in
        ap (λ (cs : List (List Op)). breach (tables own) t (tree_after t (opening_of world own t) cs)) (map-append (λ (x : Sent). x.ops) (done own ss os) (s ∷ []))
        ∙ unbroken world tables live ss os s commit t is))
        (λ unmade. unchanged))
        (λ other. unchanged))
      where
        unchanged : IsUnbroken (tables domain) domain (done domain ss os ++ [])
        unchanged = subst (IsUnbroken (tables domain) domain) (sym (append-nil (done domain ss os))) (was domain)

    front-unbroken : (ss : List Sent) (os : List Outcome) → AreUnbroken tables ss os → (next : Option Sent) → slice_get ss (length os) ≡ next → AreUnbroken tables ss (os ++ decide_front world tables live ss os next)
    front-unbroken ss os was None at = subst (AreUnbroken tables ss) (sym (append-nil os)) was
    front-unbroken ss os was (Some s) at = decide-unbroken ss os s at was

    next-unbroken : (n : ℕ) (ss : List Sent) (os : List Outcome) → AreUnbroken tables ss os → AreUnbroken tables ss (os ++ decide_next world tables live ss os n)
    next-unbroken zero ss os was = subst (AreUnbroken tables ss) (sym (append-nil os)) was
    next-unbroken (suc n) ss os was =
        let front = decide_front world tables live ss os (slice_get ss (length os)) in
        subst (AreUnbroken tables ss) (append_assoc os front (decide_next world tables live ss (os ++ front) n)) (next-unbroken n ss (os ++ front) (front-unbroken ss os was (slice_get ss (length os)) refl))

  -- ---- one entry more

  abbrev KeepsRules : List Answered → Type 0
  KeepsRules answered = AreUnbroken (tables_now world answered) (sents answered) (outcomes answered)

  decided-unbroken : (answered : List Answered) (call : Call) → KeepsRules answered → AreUnbroken (tables_now world answered) (sents answered) (outcomes answered ++ decided_by world answered call)
  decided-unbroken answered (Settle receipt) was = next-unbroken (tables_now world answered) (is_live world answered) (receipt - length (outcomes answered)) (sents answered) (outcomes answered) was
  decided-unbroken answered Pump was = next-unbroken (tables_now world answered) (is_live world answered) 1 (sents answered) (outcomes answered) was
  decided-unbroken answered call was = subst (AreUnbroken (tables_now world answered) (sents answered)) (sym (append-nil (outcomes answered))) was

  -- a pending submission changes no tree
  sent-unbroken : (tables : ℕ → SchemaTable) (ss : List Sent) (os : List Outcome) (o : Option Sent) → length os ≤ length ss → AreUnbroken tables ss os → AreUnbroken tables (ss ++ option_to_list o) os
  sent-unbroken tables ss os None within was = subst (λ (ts : List Sent). AreUnbroken tables ts os) (sym (append-nil ss)) was
  sent-unbroken tables ss os (Some s) within was = λ domain. subst (IsUnbroken (tables domain) domain) (sym (done-more domain ss s os within)) (was domain)

  module _ (answered : List Answered) (e : Entry) (sound : IsSound world answered) (only : OneIsUpgraded world) (was : KeepsRules answered) where
    abbrev tables : ℕ → SchemaTable
    tables = tables_now world answered

    abbrev reply : Reply
    reply = reply_to world answered e.client e.call

    abbrev after : List Answered
    after = answered ++ answered_as world answered e reply ∷ []

    call-unbroken : (call : Call) (r : Reply) → AreUnbroken tables (sents answered ++ option_to_list (sent_by answered call r)) (outcomes answered ++ decided_by world answered call)
    call-unbroken (Settle receipt) r = subst (λ (ss : List Sent). AreUnbroken tables ss (outcomes answered ++ decided_by world answered (Settle receipt))) (sym (append-nil (sents answered))) (decided-unbroken answered (Settle receipt) was)
    call-unbroken Pump r = subst (λ (ss : List Sent). AreUnbroken tables ss (outcomes answered ++ decided_by world answered Pump)) (sym (append-nil (sents answered))) (decided-unbroken answered Pump was)
    call-unbroken call r =
        subst (AreUnbroken tables (sents answered ++ option_to_list (sent_by answered call r))) (sym (append-nil (outcomes answered)))
        (sent-unbroken tables (sents answered) (outcomes answered) (sent_by answered call r) sound.known.within was)

    by-old-tables : AreUnbroken tables (sents after) (outcomes after)
    by-old-tables =
        subst (λ (ss : List Sent). AreUnbroken tables ss (outcomes after)) (sym (sents-push answered (answered_as world answered e reply)))
        (subst (AreUnbroken tables (sents answered ++ option_to_list (sent_by answered e.call reply))) (sym (outcomes-push answered (answered_as world answered e reply))) (call-unbroken e.call reply))

    module _ (went : upgraded e.call reply ≡ true) where
      abbrev good : IsGoodUpgrade world answered e.call
      good = good-upgrade world answered e.client e.call went

      version-now : schema_version after ≡ good.version
      version-now = schema_version-next answered (answered_as world answered e reply) went ∙ good.next

      same-sents : sents after ≡ sents answered
      same-sents = sents-push answered (answered_as world answered e reply) ∙ ap (λ (c : Call). sents answered ++ option_to_list (sent_by answered c reply)) good.call_is ∙ append-nil (sents answered)

      same-outcomes : outcomes after ≡ outcomes answered
      same-outcomes = outcomes-push answered (answered_as world answered e reply) ∙ ap (λ (c : Call). outcomes answered ++ decided_by world answered c) good.call_is ∙ append-nil (outcomes answered)

      -- an upgrade makes no commit
      same-trees : (table : SchemaTable) (domain : ℕ) → IsUnbroken table domain (done domain (sents answered) (outcomes answered)) → IsUnbroken table domain (done domain (sents after) (outcomes after))
      same-trees table domain is =
          subst (λ (ss : List Sent). IsUnbroken table domain (done domain ss (outcomes after))) (sym same-sents)
          (subst (λ (os : List Outcome). IsUnbroken table domain (done domain (sents answered) os)) (sym same-outcomes) is)

      by-next-tables : KeepsRules after
      by-next-tables zero =
          same-trees (tables_now world after 0) 0
          (subst (λ v. IsUnbroken (table_of world v 0) 0 (done 0 (sents answered) (outcomes answered))) (sym version-now) good.unbroken)
      by-next-tables (suc n) =
          same-trees (tables_now world after (suc n)) (suc n)
          (subst (λ (t : SchemaTable). IsUnbroken t (suc n) (done (suc n) (sents answered) (outcomes answered))) (one-table world (suc n) (schema_version answered) (schema_version after) (only n)) (was (suc n)))

    answer-unbroken : KeepsRules after
    answer-unbroken = by (upgraded e.call reply) refl
      where
        by : (b : Bool) → upgraded e.call reply ≡ b → KeepsRules after
        by false unchanged = subst (λ (ts : ℕ → SchemaTable). AreUnbroken ts (sents after) (outcomes after)) (sym (tables-same world answered (answered_as world answered e reply) unchanged)) by-old-tables
        by true went = by-next-tables went

  -- ---- all entries

  fold-unbroken : (answered : List Answered) (log : List Entry) → IsSound world answered → OneIsUpgraded world → KeepsRules answered → KeepsRules (fold (answer world) answered log)
  fold-unbroken answered [] sound only was = was
  fold-unbroken answered (e ∷ log) sound only was = fold-unbroken (answer world answered e) log (IsSound-answer world answered sound e) only (answer-unbroken answered e sound only was)

pub newest_keep : NewestTreesKeepTheRules
newest_keep world log only openings = fold-unbroken world [] log (IsSound-nothing world) only openings

pub one_by_one : UpgradesGoOneByOne
one_by_one world log i a version at call_is accepted =
    let h = history world log in
    let given : reply_to world (take i h) a.entry.client a.entry.call ≡ Accepted = sym (are_answered world log i a at) ∙ accepted in
    let yes : upgraded a.entry.call (reply_to world (take i h) a.entry.client a.entry.call) ≡ true = λ k. upgraded (call_is k) (given k) in
    let went = good-upgrade world (take i h) a.entry.client a.entry.call yes in
    let calls : Upgrade went.version ≡ Upgrade version = sym went.call_is ∙ call_is in
    let same : went.version ≡ version = cc in
    let after : schema_version (take (suc i) h) ≡ schema_version (take i h) + 1 =
    ap schema_version (take_next i h a at) ∙ schema_version-next (take i h) a (λ k. upgraded (call_is k) (accepted k)) in
    (went.next ∙ same, after ∙ went.next ∙ same)
