-- The trees of a log are closed, entry by entry.
use Rattle.std.proofs.Common.{◌≡◌, ◌⊎◌, inl, inr, ℕ, zero, suc, ◌+◌, ◌-◌, ◌≤◌, Bool, List, [], ◌∷◌, ◌++◌, length, map, take, Option, None, Some, refl, ap, sym, ◌∙◌, subst, arith, append-nil, append_assoc, length-append, if◌then◌else◌}
use Rattle.std.specs.Prelude.{slice_get, unwrap_or, option_and_then, nat_eq, IsTrue}
use Rattle.std.specs.List.{cons_option, fold}
use Rattle.std.specs.Option.{option_to_list}
use Rattle.std.proofs.lemmas.Bool.{cases_lt, cond_both, eqb-true}
use Rattle.std.proofs.lemmas.Grind.{flat_map-append}
use Rattle.std.proofs.lemmas.List.{map-append, take_all, take-append-le}
use Rattle.std.proofs.lemmas.List.Elements.{filter_map-append}
use Rattle.std.proofs.lemmas.List.Sums.{fold-append}
use Rattle.std.proofs.lemmas.Option.{none-some, same_Some, option_and_then_some, slice_get_within}
use Rattle.sal_types.specs.declared.value.Store.{Store}
use Rattle.sal_types.specs.declared.row.Row.{Row}
use Rattle.sal_types.proofs.Lists.{last_or_before}
use Rattle.sal_rows.specs.declared.op.Op.{Op}
use Rattle.sal_rows.specs.declared.outcome.CallFault.{CallFault}
use Rattle.sal_rows.specs.declared.outcome.CallFault.TheVariants.{NoDomain}
use Rattle.sal_rows.specs.declared.outcome.Outcome.{Outcome}
use Rattle.sal_rows.specs.declared.outcome.Outcome.TheVariants.{Done}
use Rattle.sal_rows.specs.Apply.{apply_ops}
use Rattle.sal_rows.specs.Clash.{tip}
use Rattle.sal_rows.specs.Commits.{next_tree, tree_after}
use Rattle.sal_rows.specs.Spans.{spans}
use Rattle.sal_schema.specs.Fitting.{is_closed}
use Rattle.sal_schema.specs.declared.table.SchemaTable.{SchemaTable}
use Rattle.sal_schema.specs.Valid.{IsTable}
use Rattle.sal_history.specs.declared.call.Call.{Call}
use Rattle.sal_history.specs.declared.call.Call.TheVariants.{Begin, ChainBegin, Pump, Settle, Submit}
use Rattle.sal_history.specs.declared.call.Entry.{Entry}
use Rattle.sal_history.specs.declared.reply.Reply.{Reply}
use Rattle.sal_history.specs.declared.reply.Reply.TheVariants.{Begun, Receipt, Refused}
use Rattle.sal_history.specs.Answered.{Answered}
use Rattle.sal_history.specs.History.{answer, answered_as, base_on, began_at, began_by, chain_refusal, chained_base, commits, decide_front, decide_next, decided_by, domain_of, is_live, newest_base, nowhere, outcome, outcomes, refused_or, history, reply_to, sent_by, sents, stands_on, trees_of}
use Rattle.sal_history.specs.Numbered.{numbered}
use Rattle.sal_history.specs.Submissions.{Base, Sent, done, done_chains, done_ops, if_done, is_done}
use Rattle.sal_history.specs.Versions.{schema_version, tables_now}
use Rattle.sal_history.specs.World.{Domain, opening_of, rules_of, table_of}
use Rattle.sal_history_laws.specs.Laws.{LogsStayClosed}
use Rattle.sal_history_laws.specs.Lawful.{AreClosed, AreLawful}
use Rattle.sal_history_laws.specs.Logs.{IsSentLawful}
use Rattle.sal_history_laws.proofs.Versions.{opening_by, table_is}
use Rattle.sal_history_laws.proofs.Conflicts.{done-quiet}
use Rattle.sal_history_laws.proofs.Closing.{lawful_keeps_closed, without_conflict_stays_closed}
use Rattle.sal_history.proofs.Unbroken.{done_is}
use Rattle.sal_history.proofs.Waiting.{added, done_none}
use Rattle.sal_history.proofs.Numbered.{numbered-is}

-- ---- lists

front_stays : {X : Type 0} (xs ys : List X) (i : ℕ) (x : X) → slice_get xs i ≡ Some x → slice_get (xs ++ ys) i ≡ Some x
front_stays [] ys i x e = absurd (none-some x e)
front_stays (y ∷ xs) ys zero x e = e
front_stays (y ∷ xs) ys (suc i) x e = front_stays xs ys i x e

sents-now : (answered : List Answered) (now : Answered) → sents (answered ++ now ∷ []) ≡ sents answered ++ option_to_list now.sent
sents-now answered now =
    filter_map-append (λ (a : Answered). a.sent) answered (now ∷ [])
    ∙ elim now.sent as (λ (o : Option Sent). sents answered ++ cons_option o [] ≡ sents answered ++ option_to_list o) [ None ↦ refl | Some s ↦ refl ]

-- ---- commits

-- a submission that is not decided makes no commit
done-more : (domain : ℕ) (ss : List Sent) (s : Sent) (os : List Outcome) → length os ≤ length ss → done domain (ss ++ s ∷ []) os ≡ done domain ss os
done-more domain [] s [] le = refl
done-more domain [] s (o ∷ os) le = absurd (omega (arith, le))
done-more domain (t ∷ ss) s [] le = refl
done-more domain (t ∷ ss) s (o ∷ os) le = ap (λ (ds : List Sent). (if nat_eq t.base.domain domain then if_done o t else []) ++ ds) (done-more domain ss s os (omega (arith, le)))

done-next : (domain : ℕ) (ss : List Sent) (s : Sent) (os : List Outcome) (o : Outcome) → slice_get ss (length os) ≡ Some s → done domain ss (os ++ o ∷ []) ≡ done domain ss os ++ added domain s o
done-next domain [] s os o at = absurd (none-some s at)
done-next domain (t ∷ ss) s [] o at =
    ap (λ (ds : List Sent). added domain t o ++ ds) (done_none domain ss) ∙ append-nil (added domain t o) ∙ ap (λ (x : Sent). added domain x o) (same_Some t s at)
done-next domain (t ∷ ss) s (p ∷ os) o at =
    ap (λ (ds : List Sent). added domain t p ++ ds) (done-next domain ss s os o at) ∙ sym (append_assoc (added domain t p) (done domain ss os) (added domain s o))

-- ---- decisions

-- For any tables by which the opening trees are closed and the submissions lawful, also if they were decided by others: the only premise
-- about decisions is that nothing conflicts.
module _ (world : List Domain) (tables : ℕ → SchemaTable) (are_tables : (domain : ℕ) → IsTable (tables domain)) (opened : (domain : ℕ) → AreClosed (tables domain) (opening_of world domain)) where
  -- the trees of a domain at all of these commits are closed
  abbrev AreClosedAt : ℕ → List (List Op) → Type 0
  AreClosedAt domain cs = (k : ℕ) (t : Store) → IsTrue (is_closed (tables domain) (tree_after t (opening_of world domain t) (take k cs)))

  -- and those of each domain
  abbrev AreClosedAll : List Sent → List Outcome → Type 0
  AreClosedAll ss os = (domain : ℕ) → AreClosedAt domain (done_ops domain ss os)

  -- the base of a submission is closed, and its operations are lawful over it
  abbrev IsLawful : Sent → Type 0
  IsLawful s = AreClosed (tables s.base.domain) s.base.trees × AreLawful (tables s.base.domain) s.base.trees [] s.ops

  newest : (domain : ℕ) (cs : List (List Op)) → AreClosedAt domain cs → AreClosed (tables domain) (tip (opening_of world domain) cs)
  newest domain cs all t =
      let whole : take (length cs) cs ≡ cs = take_all (length cs) cs (omega arith) in
      subst (λ (l : List (List Op)). IsTrue (is_closed (tables domain) (tree_after t (opening_of world domain t) l))) whole (all (length cs) t)

  closed-push : (domain : ℕ) (cs : List (List Op)) (ops : List Op) → AreClosedAt domain cs → AreClosed (tables domain) (λ t. apply_ops (tip (opening_of world domain) cs t) t ops) → AreClosedAt domain (cs ++ ops ∷ [])
  closed-push domain cs ops all last k t =
      elim (cases_lt (length cs) k) [
        | inl past ↦
            let long : length (cs ++ ops ∷ []) ≡ length cs + 1 = length-append cs (ops ∷ []) in
            let whole : take k (cs ++ ops ∷ []) ≡ cs ++ ops ∷ [] = take_all k (cs ++ ops ∷ []) (omega (arith, past, long)) in
            let tree : tree_after t (opening_of world domain t) (take k (cs ++ ops ∷ [])) ≡ apply_ops (tip (opening_of world domain) cs t) t ops =
            ap (tree_after t (opening_of world domain t)) whole ∙ fold-append (next_tree t) (opening_of world domain t) cs (ops ∷ []) in
            subst (λ (rows : List Row). IsTrue (is_closed (tables domain) rows)) (sym tree) (last t)
        | inr within ↦
            let front : take k (cs ++ ops ∷ []) ≡ take k cs = take-append-le k cs (ops ∷ []) within in
            subst (λ (l : List (List Op)). IsTrue (is_closed (tables domain) (tree_after t (opening_of world domain t) l))) (sym front) (all k t)
      ]

  module _ (by : ℕ → SchemaTable) (live : ℕ → Bool) (ss : List Sent) (os : List Outcome) (s : Sent) where
    -- a done submission over closed newest trees gives closed trees
    done-closed : (commit : ℕ) → IsLawful s → AreClosedAt s.base.domain (done_ops s.base.domain ss os) → outcome world by live ss os s ≡ Done commit
        → AreClosed (tables s.base.domain) (λ t. apply_ops (tip (opening_of world s.base.domain) (done_ops s.base.domain ss os) t) t s.ops)
    done-closed commit lawful all e =
        let domain = s.base.domain in
        let opening = opening_of world domain in
        let cs = done_ops domain ss os in
        let pieces = spans s.base.commit s.base.chain (done_chains domain ss os) in
        let rules = rules_of world domain in
        without_conflict_stays_closed (tables domain) opening cs rules s.base.trees pieces s.ops (are_tables domain) lawful.0 (newest domain cs all) lawful.1 (done-quiet world by live ss os s commit e)

    more-closed : IsLawful s → slice_get ss (length os) ≡ Some s → AreClosedAll ss os → AreClosedAll ss (os ++ outcome world by live ss os s ∷ [])
    more-closed lawful next all domain =
        let o = outcome world by live ss os s in
        subst (λ (ds : List Sent). AreClosedAt domain (map (λ x. x.ops) ds)) (sym (done-next domain ss s os o next))
        (cond_both (nat_eq s.base.domain domain) (if_done o s) [] (λ (more : List Sent). AreClosedAt domain (map (λ x. x.ops) (done domain ss os ++ more)))
        (λ mine.
        cond_both (is_done o) (s ∷ []) [] (λ (more : List Sent). AreClosedAt domain (map (λ x. x.ops) (done domain ss os ++ more)))
        (λ made.
        let (commit, is) = done_is o made in
        let same : s.base.domain ≡ domain = eqb-true s.base.domain domain mine in
        subst (AreClosedAt domain) (sym (map-append (λ (x : Sent). x.ops) (done domain ss os) (s ∷ [])))
        (subst (λ d. AreClosedAt d (done_ops d ss os ++ s.ops ∷ [])) same
        (closed-push s.base.domain (done_ops s.base.domain ss os) s.ops (all s.base.domain) (done-closed commit lawful (all s.base.domain) is))))
        (λ unmade. unchanged))
        (λ other. unchanged))
      where
        unchanged : AreClosedAt domain (map (λ x. x.ops) (done domain ss os ++ []))
        unchanged = subst (λ (ds : List Sent). AreClosedAt domain (map (λ x. x.ops) ds)) (sym (append-nil (done domain ss os))) (all domain)

  -- at most as many outcomes as submissions, and closed trees
  abbrev IsDecided : List Sent → List Outcome → Type 0
  IsDecided ss os = (length os ≤ length ss) × AreClosedAll ss os

  abbrev AllLawful : List Sent → Type 0
  AllLawful ss = (i : ℕ) (s : Sent) → slice_get ss i ≡ Some s → IsLawful s

  front-closed : (by : ℕ → SchemaTable) (live : ℕ → Bool) (ss : List Sent) (os : List Outcome) → AllLawful ss → IsDecided ss os → (next : Option Sent) → slice_get ss (length os) ≡ next → IsDecided ss (os ++ decide_front world by live ss os next)
  front-closed by live ss os lawful was None at = subst (IsDecided ss) (sym (append-nil os)) was
  front-closed by live ss os lawful was (Some s) at =
      (omega (arith, slice_get_within ss (length os) s at, length-append os (outcome world by live ss os s ∷ [])), more-closed by live ss os s (lawful (length os) s at) at was.1)

  next-closed : (by : ℕ → SchemaTable) (live : ℕ → Bool) (n : ℕ) (ss : List Sent) (os : List Outcome) → AllLawful ss → IsDecided ss os → IsDecided ss (os ++ decide_next world by live ss os n)
  next-closed by live zero ss os lawful was = subst (IsDecided ss) (sym (append-nil os)) was
  next-closed by live (suc n) ss os lawful was =
      let front = decide_front world by live ss os (slice_get ss (length os)) in
      subst (IsDecided ss) (append_assoc os front (decide_next world by live ss (os ++ front) n)) (next-closed by live n ss (os ++ front) lawful (front-closed by live ss os lawful was (slice_get ss (length os)) refl))

  -- ---- one entry more

  pub record IsKept (answered : List Answered) : Type 0 where
    pub decided : IsDecided (sents answered) (outcomes answered)
    pub bases : (place : ℕ) (b : Base) → began_at answered place ≡ Some b → AreClosed (tables b.domain) b.trees
    pub sent : (i : ℕ) (s : Sent) → slice_get (sents answered) i ≡ Some s → AreClosed (tables s.base.domain) s.base.trees

  -- the submissions of a log are lawful by the tables
  abbrev AreLawfulIn : List Answered → Type 0
  AreLawfulIn answered = (i : ℕ) (s : Sent) → slice_get (sents answered) i ≡ Some s → IsSentLawful tables s

  nowhere-closed : AreClosed (tables nowhere.domain) nowhere.trees
  nowhere-closed t = refl

  module _ (answered : List Answered) (was : IsKept answered) (lawful : AreLawfulIn answered) where
    all_lawful : AllLawful (sents answered)
    all_lawful i s at = (was.sent i s at, lawful i s at)

    trees-closed : (domain : ℕ) → AreClosed (tables domain) (trees_of world answered domain)
    trees-closed domain = newest domain (commits answered domain) (was.decided.1 domain)

    on-closed : (chain : ℕ) (w : Option Sent) → ((s : Sent) → w ≡ Some s → (k : ℕ) × (slice_get (sents answered) k ≡ Some s))
        → AreClosed (tables (base_on world answered chain w).domain) (base_on world answered chain w).trees
    on-closed chain None from = trees-closed (domain_of answered chain)
    on-closed chain (Some s) from =
        let (k, at) = from s refl in
        let it = all_lawful k s at in
        lawful_keeps_closed (tables s.base.domain) s.base.trees s.ops (are_tables s.base.domain) it.0 it.1

    chained-closed : (chain : ℕ) → AreClosed (tables (chained_base world answered chain).domain) (chained_base world answered chain).trees
    chained-closed chain =
        on-closed chain (option_and_then (λ n. numbered (sents answered) n) (stands_on answered chain))
        (λ s e. option_and_then_some (λ n. numbered (sents answered) n) (stands_on answered chain) s e (λ n there at. (n - 1, numbered-is (sents answered) n s at)))

    -- the base of a transaction that a call begins
    begun-closed : (client : ℕ) (call : Call) (b : Base) → began_by world answered call (reply_to world answered client call) ≡ Some b → AreClosed (tables b.domain) b.trees
    begun-closed client (Begin domain mode) b =
        cond_both (is_live world answered domain) (Begun (length (commits answered domain)) None) (Refused (NoDomain domain)) (λ r. began_by world answered (Begin domain mode) r ≡ Some b → AreClosed (tables b.domain) b.trees)
        (λ live e. subst (λ (x : Base). AreClosed (tables x.domain) x.trees) (same_Some (newest_base world answered domain None) b e) (trees-closed domain))
        (λ dead e. absurd (none-some b e))
    begun-closed client (ChainBegin chain mode) b =
        elim (chain_refusal world answered chain) as (λ (o : Option CallFault). began_by world answered (ChainBegin chain mode) (refused_or o (Begun (chained_base world answered chain).commit (stands_on answered chain))) ≡ Some b → AreClosed (tables b.domain) b.trees) [
          | None ↦ λ e. subst (λ (x : Base). AreClosed (tables x.domain) x.trees) (same_Some (chained_base world answered chain) b e) (chained-closed chain)
          | Some fault ↦ λ e. absurd (none-some b e)
        ]
    begun-closed client call b = λ e. absurd (none-some b e)

    -- the base of a submission
    sent-closed : (call : Call) (reply : Reply) (s : Sent) → sent_by answered call reply ≡ Some s → AreClosed (tables s.base.domain) s.base.trees
    sent-closed (Submit place ops) (Receipt n) s e =
        subst (λ (x : Sent). AreClosed (tables x.base.domain) x.base.trees) (same_Some (record { base = unwrap_or (began_at answered place) nowhere; ops = ops }) s e) (by (began_at answered place) refl)
      where
        by : (o : Option Base) → began_at answered place ≡ o → AreClosed (tables (unwrap_or o nowhere).domain) (unwrap_or o nowhere).trees
        by None at = nowhere-closed
        by (Some b) at = was.bases place b at
    sent-closed call reply s e = absurd (none-some s e)

    decided-more : (call : Call) → IsDecided (sents answered) (outcomes answered ++ decided_by world answered call)
    decided-more (Settle receipt) = next-closed (tables_now world answered) (is_live world answered) (receipt - length (outcomes answered)) (sents answered) (outcomes answered) all_lawful was.decided
    decided-more Pump = next-closed (tables_now world answered) (is_live world answered) 1 (sents answered) (outcomes answered) all_lawful was.decided
    decided-more call = subst (IsDecided (sents answered)) (sym (append-nil (outcomes answered))) was.decided

    sent-more : (os : List Outcome) (o : Option Sent) → IsDecided (sents answered) os → IsDecided (sents answered ++ option_to_list o) os
    sent-more os None is = subst (λ (ss : List Sent). IsDecided ss os) (sym (append-nil (sents answered))) is
    sent-more os (Some s) is = (
      omega (arith, is.0, length-append (sents answered) (s ∷ [])),
      λ domain. subst (λ (ds : List Sent). AreClosedAt domain (map (λ x. x.ops) ds)) (sym (done-more domain (sents answered) s os is.0)) (is.1 domain),
    )

    module _ (e : Entry) where
      abbrev reply : Reply
      reply = reply_to world answered e.client e.call

      abbrev now : Answered
      now = answered_as world answered e reply

      abbrev made : Option Sent
      made = sent_by answered e.call reply

      outcomes-now : outcomes (answered ++ now ∷ []) ≡ outcomes answered ++ decided_by world answered e.call
      outcomes-now = flat_map-append (λ (a : Answered). a.decided) answered (now ∷ []) ∙ ap (λ (ps : List Outcome). outcomes answered ++ ps) (append-nil (decided_by world answered e.call))

      begun-now : (place : ℕ) (b : Base) → began_at (answered ++ now ∷ []) place ≡ Some b → (began_at answered place ≡ Some b) ⊎ (began_by world answered e.call reply ≡ Some b)
      begun-now place b at =
          option_and_then_some (λ (a : Answered). a.began) (slice_get (answered ++ now ∷ []) place) b at (λ a found is.
          elim (last_or_before answered now a place found) [
            | inl old ↦ inl (ap (option_and_then (λ (x : Answered). x.began)) old ∙ is)
            | inr w ↦ inr (ap (λ (x : Answered). x.began) w.1 ∙ is)
          ])

      sent-now : (o : Option Sent) → made ≡ o → (i : ℕ) (s : Sent) → slice_get (sents answered ++ option_to_list o) i ≡ Some s → AreClosed (tables s.base.domain) s.base.trees
      sent-now None is i s at = was.sent i s (ap (λ (ss : List Sent). slice_get ss i) (sym (append-nil (sents answered))) ∙ at)
      sent-now (Some x) is i s at = elim (last_or_before (sents answered) x s i at) [
        | inl old ↦ was.sent i s old
        | inr w ↦ sent-closed e.call reply s (is ∙ ap Some w.1)
      ]

      kept-answer : IsKept (answer world answered e)
      kept-answer = record {
        decided =
            subst (λ (ss : List Sent). IsDecided ss (outcomes (answered ++ now ∷ []))) (sym (sents-now answered now))
            (subst (IsDecided (sents answered ++ option_to_list made)) (sym outcomes-now) (sent-more (outcomes answered ++ decided_by world answered e.call) made (decided-more e.call)));
        bases = λ place b at. elim (begun-now place b at) [ inl old ↦ was.bases place b old | inr new ↦ begun-closed e.client e.call b new ];
        sent = λ i s at. sent-now made refl i s (ap (λ (ss : List Sent). slice_get ss i) (sym (sents-now answered now)) ∙ at);
      }

  -- ---- all entries

  kept-later : (answered : List Answered) (log : List Entry) (i : ℕ) (s : Sent) → slice_get (sents answered) i ≡ Some s → slice_get (sents (fold (answer world) answered log)) i ≡ Some s
  kept-later answered [] i s at = at
  kept-later answered (e ∷ log) i s at =
      let now = answered_as world answered e (reply_to world answered e.client e.call) in
      kept-later (answer world answered e) log i s (ap (λ (ss : List Sent). slice_get ss i) (sents-now answered now) ∙ front_stays (sents answered) (option_to_list now.sent) i s at)

  pub kept-fold : (answered : List Answered) (log : List Entry) → AreLawfulIn (fold (answer world) answered log) → IsKept answered → IsKept (fold (answer world) answered log)
  kept-fold answered [] lawful was = was
  kept-fold answered (e ∷ log) lawful was =
      kept-fold (answer world answered e) log lawful (kept-answer answered was (λ i s at. lawful i s (kept-later answered (e ∷ log) i s at)) e)

  pub kept-nothing : IsKept []
  kept-nothing = record {
    decided = (omega arith, λ domain k t. subst (λ (cs : List (List Op)). IsTrue (is_closed (tables domain) (tree_after t (opening_of world domain t) cs))) (sym (take_all k [] (omega arith))) (opened domain t));
    bases = λ place b at. absurd (none-some b at);
    sent = λ i s at. absurd (none-some s at);
  }

pub logs_stay_closed : LogsStayClosed
logs_stay_closed world log sound lawful =
    let version = schema_version (history world log) in
    let are_tables : (domain : ℕ) → IsTable (table_of world version domain) = λ domain. table_is world version domain sound in
    let opened : (domain : ℕ) → AreClosed (table_of world version domain) (opening_of world domain) = λ domain. opening_by world version domain sound in
    let kept = kept-fold world (table_of world version) are_tables opened [] log lawful (kept-nothing world (table_of world version) are_tables opened) in
    record { commits = λ domain k. kept.decided.1 domain k; bases = kept.bases }
