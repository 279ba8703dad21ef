-- Each transaction reads one commit with its own chain's submissions on top: an invariant of the entries.
use Rattle.std.proofs.Common.{◌≡◌, ◌⊎◌, inl, inr, ℕ, zero, suc, ◌+◌, ◌≤◌, Bool, true, false, List, [], ◌∷◌, ◌++◌, length, drop, take, Option, None, Some, refl, ap, sym, ◌∙◌, subst, cond, arith, append-nil, length-append, if◌then◌else◌}
use Rattle.std.specs.Prelude.{nat_eq, nat_lt, option_and_then, slice_get, unwrap_or}
use Rattle.std.specs.List.{filter, fold, list_any}
use Rattle.std.specs.Option.{option_or, option_to_list}
use Rattle.std.proofs.lemmas.Bool.{cond_both, eq-eqb, or_parts}
use Rattle.std.proofs.lemmas.List.{drop-append-le, length-take, length-take-le, map-append, take-append-le, take_all}
use Rattle.std.proofs.lemmas.List.Folds.{list_any-append}
use Rattle.std.proofs.lemmas.List.Sums.{fold-append}
use Rattle.std.proofs.lemmas.Option.{none-some, option_and_then_some, same_Some, slice_get_within}
use Rattle.std.proofs.Math.Seq.{take-append_seam}
use Rattle.sal_types.specs.declared.value.Store.{Store}
use Rattle.sal_types.specs.declared.row.Row.{Row}
use Rattle.sal_types.proofs.Lists.{last_or_before}
use Rattle.sal_rows.specs.declared.op.Op.{Op}
use Rattle.sal_rows.specs.declared.outcome.CallFault.{CallFault}
use Rattle.sal_rows.specs.declared.outcome.CallFault.TheVariants.{NoDomain, PipelineFull, TxSpent}
use Rattle.sal_rows.specs.declared.outcome.Outcome.{Outcome}
use Rattle.sal_rows.specs.Apply.{apply_ops}
use Rattle.sal_rows.specs.Commits.{tree_after}
use Rattle.sal_rows.specs.Spans.{is_of_chain}
use Rattle.sal_history.specs.declared.call.Call.{Call}
use Rattle.sal_history.specs.declared.call.Call.TheVariants.{Begin, ChainBegin, Submit}
use Rattle.sal_history.specs.declared.call.Entry.{Entry}
use Rattle.sal_history.specs.declared.reply.Reply.{Reply}
use Rattle.sal_history.specs.declared.reply.Reply.TheVariants.{Begun, Receipt, Refused}
use Rattle.sal_history.specs.Answered.{Answered}
use Rattle.sal_history.specs.History.{answer, answered_as, base_on, began_at, began_by, chain_refusal, chained_base, commits, domain_of, history, is_live, is_spent, newest_base, nowhere, outcomes, pending, refused_or, reply_to, sent_by, sents, spends, stands_on}
use Rattle.sal_history.specs.Numbered.{numbered}
use Rattle.sal_history.specs.Submissions.{Base, Sent, done, done_ops, is_in}
use Rattle.sal_history.specs.World.{Domain, opening_of}
use Rattle.sal_history.proofs.Bases.{ops_in, same_chain}
use Rattle.sal_history.proofs.Logs.{IsOpen, IsSound, IsSound-answer, IsSound-nothing}
use Rattle.sal_history.proofs.Numbers.{front_of}
use Rattle.sal_history.proofs.Unbroken.{outcomes-push, sents-push}
use Rattle.sal_history.proofs.Waiting.{done-more, pending_waits, waiting}
use Rattle.sal_history_laws.specs.Serial.{played}
use Rattle.sal_isolation_laws.specs.Isolation.{ReadsOneCommit, own_after}
use Rattle.sal_isolation_laws.specs.IsolationLaws.{SnapshotsAreRead}

-- ---- the pending submissions of a chain

none_or : {X : Type 0} (a b : Option X) → option_or a b ≡ None → (a ≡ None) × (b ≡ None)
none_or None b e = (refl, e)
none_or (Some x) b e = cc

if_none : {X : Type 0} (b : Bool) (x : X) → (if b then Some x else None) ≡ None → b ≡ false
if_none true x e = cc
if_none false x e = refl

-- where none waits, the chain has no submission that is not decided
waits_none : (chain : Option ℕ) (ss : List Sent) (os : List Outcome) → waiting chain ss os ≡ None → filter (is_in chain) (drop (length os) ss) ≡ []
waits_none chain [] [] e = refl
waits_none chain [] (o ∷ os) e = refl
waits_none chain (s ∷ ss) [] e =
    let here : Option Sent = if is_in chain s then Some s else None in
    let parts = none_or (waiting chain ss []) here e in
    ap (λ b. cond b (s ∷ filter (is_in chain) ss) (filter (is_in chain) ss)) (if_none (is_in chain s) s parts.1) ∙ waits_none chain ss [] parts.0
waits_none chain (s ∷ ss) (o ∷ os) e = waits_none chain ss os e

-- the one that waits is the chain's last submission, and not decided
abbrev IsLast : Option ℕ → List Sent → ℕ → Sent → Type 0
IsLast chain ss n x = (r : ℕ) × (n ≤ r) × (slice_get ss r ≡ Some x) × (is_in chain x ≡ true) × (filter (is_in chain) (drop (suc r) ss) ≡ [])

waits_last : (chain : Option ℕ) (ss : List Sent) (os : List Outcome) (x : Sent) → waiting chain ss os ≡ Some x → IsLast chain ss (length os) x
waits_last chain [] os x e = absurd (none-some x e)
waits_last chain (s ∷ ss) [] x e =
    let here : Option Sent = if is_in chain s then Some s else None in
    elim (waiting chain ss []) as (λ (o : Option Sent). waiting chain ss [] ≡ o → option_or o here ≡ Some x → IsLast chain (s ∷ ss) 0 x) [
      | None ↦ λ none f.
          elim (is_in chain s) as (λ b. is_in chain s ≡ b → (if b then Some s else None) ≡ Some x → IsLast chain (s ∷ ss) 0 x) [
            | true ↦ λ own g. let same : s ≡ x = same_Some s x g in (0, omega arith, ap Some same, ap (is_in chain) (sym same) ∙ own, waits_none chain ss [] none)
            | false ↦ λ other g. absurd (none-some x g)
          ] refl f
      | Some y ↦ λ some f. let rest = waits_last chain ss [] x (some ∙ f) in (suc rest.0, omega arith, rest.2, rest.3, rest.4)
    ] refl e
waits_last chain (s ∷ ss) (o ∷ os) x e = let rest = waits_last chain ss os x e in (suc rest.0, omega (arith, rest.1), rest.2, rest.3, rest.4)

-- ---- lists

filter-append : {X : Type 0} (test : X → Bool) (xs ys : List X) → filter test (xs ++ ys) ≡ filter test xs ++ filter test ys
filter-append test [] ys = refl
filter-append test (x ∷ xs) ys = elim (test x) as (λ b. cond b (x ∷ filter test (xs ++ ys)) (filter test (xs ++ ys)) ≡ cond b (x ∷ filter test xs) (filter test xs) ++ filter test ys) [
  | true ↦ ap (λ zs. x ∷ zs) (filter-append test xs ys)
  | false ↦ filter-append test xs ys
]

around_get : {X : Type 0} (xs : List X) (r : ℕ) (x : X) → slice_get xs r ≡ Some x → xs ≡ take r xs ++ x ∷ drop (suc r) xs
around_get [] r x at = absurd (none-some x at)
around_get (y ∷ xs) zero x at = ap (λ z. z ∷ xs) (same_Some y x at)
around_get (y ∷ xs) (suc r) x at = ap (λ zs. y ∷ zs) (around_get xs r x at)

-- a chain's submissions up to its last one
last_own : (chain : Option ℕ) (ss : List Sent) (n r : ℕ) (x : Sent) → n ≤ r → slice_get ss r ≡ Some x → is_in chain x ≡ true → filter (is_in chain) (drop (suc r) ss) ≡ []
    → filter (is_in chain) (drop n ss) ≡ filter (is_in chain) (drop n (take r ss)) ++ x ∷ []
last_own chain ss n r x le at own none =
    let inside = slice_get_within ss r x at in
    let front : length (take r ss) ≡ r = length-take-le r ss (omega (arith, inside)) in
    let rest : List Sent = x ∷ drop (suc r) ss in
    ap (λ (l : List Sent). filter (is_in chain) (drop n l)) (around_get ss r x at)
    ∙ ap (filter (is_in chain)) (drop-append-le n (take r ss) rest (omega (arith, le, front)))
    ∙ filter-append (is_in chain) (drop n (take r ss)) rest
    ∙ ap (λ b. filter (is_in chain) (drop n (take r ss)) ++ cond b (x ∷ filter (is_in chain) (drop (suc r) ss)) (filter (is_in chain) (drop (suc r) ss))) own
    ∙ ap (λ (l : List Sent). filter (is_in chain) (drop n (take r ss)) ++ x ∷ l) none

module _ (world : List Domain) where
  -- ---- what a base reads

  -- over the submissions and the outcomes so far
  pub record IsStack (ss : List Sent) (os : List Outcome) (before : List Sent) (b : Base) : Type 0 where
    pub receipts : ℕ
    pub decided : receipts ≤ length os
    pub commit : b.commit ≡ length (done_ops b.domain ss (take receipts os))
    pub trees : (s : Store) → b.trees s ≡ fold played (λ u. tree_after u (opening_of world b.domain u) (done_ops b.domain ss (take receipts os))) (own_after b receipts before) s

  -- it reads the same over others with the same commits
  restack : (ss ts : List Sent) (os ps : List Outcome) (before : List Sent) (b : Base) → length os ≤ length ps
      → ((n : ℕ) → n ≤ length os → done b.domain ss (take n os) ≡ done b.domain ts (take n ps)) → IsStack ss os before b → IsStack ts ps before b
  restack ss ts os ps before b le same was =
      let n = was.receipts in
      let here = same n was.decided in
      record {
        receipts = n;
        decided = omega (arith, le, was.decided);
        commit = was.commit ∙ ap (λ (ds : List Sent). length (ops_in ds)) here;
        trees = λ s. was.trees s ∙ ap (λ (ds : List Sent). fold played (λ u. tree_after u (opening_of world b.domain u) (ops_in ds)) (own_after b n before) s) here;
      }

  -- and the same after submissions of other chains
  behind : (ss : List Sent) (os : List Outcome) (before after : List Sent) (b : Base) → ((n : ℕ) → n ≤ length os → own_after b n before ≡ own_after b n after) → IsStack ss os before b → IsStack ss os after b
  behind ss os before after b same was =
      record {
        receipts = was.receipts;
        decided = was.decided;
        commit = was.commit;
        trees = λ s.
            was.trees s
            ∙ ap (λ (l : List Sent). fold played (λ u. tree_after u (opening_of world b.domain u) (done_ops b.domain ss (take was.receipts os))) l s) (same was.receipts was.decided);
      }

  done_same : (domain : ℕ) (ss : List Sent) (o : Option Sent) (os more : List Outcome) (n : ℕ) → length os ≤ length ss → n ≤ length os
      → done domain ss (take n os) ≡ done domain (ss ++ option_to_list o) (take n (os ++ more))
  done_same domain ss o os more n within le =
      ap (done domain ss) (sym (take-append-le n os more le)) ∙ by o
    where
      brief : length (take n (os ++ more)) ≤ length ss
      brief = omega (arith, length-take n (os ++ more), le, within)

      by : (o : Option Sent) → done domain ss (take n (os ++ more)) ≡ done domain (ss ++ option_to_list o) (take n (os ++ more))
      by None = ap (λ (ts : List Sent). done domain ts (take n (os ++ more))) (sym (append-nil ss))
      by (Some x) = sym (done-more domain ss x (take n (os ++ more)) brief)

  -- ---- the invariant

  -- of each transaction when it began, of those that are open now, and of each submission
  pub record AreStacked (answered : List Answered) : Type 0 where
    pub begun : (place : ℕ) (a : Answered) (b : Base) → slice_get answered place ≡ Some a → a.began ≡ Some b → IsStack (sents answered) (outcomes answered) (sents (take place answered)) b
    pub open_on : (b : Base) → IsOpen answered b → IsStack (sents answered) (outcomes answered) (sents answered) b
    pub sent : (r : ℕ) (x : Sent) → slice_get (sents answered) r ≡ Some x → (x.base ≡ nowhere) ⊎ IsStack (sents answered) (outcomes answered) (take r (sents answered)) x.base

  module _ (answered : List Answered) (sound : IsSound world answered) (was : AreStacked answered) where
    abbrev ss : List Sent
    ss = sents answered

    abbrev os : List Outcome
    os = outcomes answered

    -- ---- what begins

    newest : (domain : ℕ) (chain : Option ℕ) → filter (is_in chain) (drop (length os) ss) ≡ [] → IsStack ss os ss (newest_base world answered domain chain)
    newest domain chain none =
        let whole : take (length os) os ≡ os = take_all (length os) os (omega arith) in
        record {
          receipts = length os;
          decided = omega arith;
          commit = ap (λ (ps : List Outcome). length (done_ops domain ss ps)) (sym whole);
          trees = λ s.
              ap (λ (ps : List Outcome). tree_after s (opening_of world domain s) (done_ops domain ss ps)) (sym whole)
              ∙ ap (λ (l : List Sent). fold played (λ u. tree_after u (opening_of world domain u) (done_ops domain ss (take (length os) os))) l s) (sym none);
        }

    follows : (chain : ℕ) (x : Sent) → IsLast (Some chain) ss (length os) x → IsStack ss os ss (base_on world answered chain (Some x))
    follows chain x last =
        elim (was.sent last.0 x last.2) [
          | inl e ↦ let none : false ≡ true = ap (λ (b : Base). is_of_chain (Some chain) b.chain) (sym e) ∙ last.3 in cc
          | inr on ↦
              let n = on.receipts in
              let of : Some chain ≡ x.base.chain = same_chain (Some chain) x.base.chain last.3 in
              let start : Store → List Row = λ u. tree_after u (opening_of world x.base.domain u) (done_ops x.base.domain ss (take n os)) in
              let own : filter (is_in (Some chain)) (drop n ss) ≡ filter (is_in x.base.chain) (drop n (take last.0 ss)) ++ x ∷ [] =
              last_own (Some chain) ss n last.0 x (omega (arith, on.decided, last.1)) last.2 last.3 last.4
              ∙ ap (λ (c : Option ℕ). filter (is_in c) (drop n (take last.0 ss)) ++ x ∷ []) of in
              record {
                receipts = n;
                decided = on.decided;
                commit = on.commit;
                trees = λ s.
                    ap (λ (tree : List Row). apply_ops tree s x.ops) (on.trees s)
                    ∙ sym (ap (λ (f : Store → List Row). f s) (fold-append played start (filter (is_in x.base.chain) (drop n (take last.0 ss))) (x ∷ [])))
                    ∙ sym (ap (λ (l : List Sent). fold played start l s) own);
              }
        ]

    on_waiting : (chain : ℕ) (w : Option Sent) → waiting (Some chain) ss os ≡ w → IsStack ss os ss (base_on world answered chain w)
    on_waiting chain None e = newest (domain_of answered chain) (Some chain) (waits_none (Some chain) ss os e)
    on_waiting chain (Some x) e = follows chain x (waits_last (Some chain) ss os x e)

    chained : (chain : ℕ) → IsStack ss os ss (chained_base world answered chain)
    chained chain =
        let waits : option_and_then (λ n. numbered ss n) (stands_on answered chain) ≡ waiting (Some chain) ss os = pending_waits (Some chain) ss os in
        subst (λ (w : Option Sent). IsStack ss os ss (base_on world answered chain w)) (sym waits) (on_waiting chain (waiting (Some chain) ss os) refl)

    none_of : (l : List Sent) → filter (is_in None) l ≡ []
    none_of [] = refl
    none_of (x ∷ l) = none_of l

    begins : (client : ℕ) (call : Call) (b : Base) → began_by world answered call (reply_to world answered client call) ≡ Some b → IsStack ss os ss b
    begins client (Begin domain mode) b =
        cond_both (is_live world answered domain) (Begun (length (commits answered domain)) None) (Refused (NoDomain domain)) (λ r. began_by world answered (Begin domain mode) r ≡ Some b → IsStack ss os ss b)
        (λ live e. subst (IsStack ss os ss) (same_Some (newest_base world answered domain None) b e) (newest domain None (none_of (drop (length os) ss))))
        (λ dead e. absurd (none-some b e))
    begins client (ChainBegin chain mode) b =
        elim (chain_refusal world answered chain) as (λ (o : Option CallFault). began_by world answered (ChainBegin chain mode) (refused_or o (Begun (chained_base world answered chain).commit (stands_on answered chain))) ≡ Some b → IsStack ss os ss b) [
          | None ↦ λ e. subst (IsStack ss os ss) (same_Some (chained_base world answered chain) b e) (chained chain)
          | Some fault ↦ λ e. absurd (none-some b e)
        ]
    begins client call b = λ e. absurd (none-some b e)

    -- what begins is not submitted by the same call
    not_both : (call : Call) (r : Reply) (b : Base) → began_by world answered call r ≡ Some b → sent_by answered call r ≡ None
    not_both (Begin domain mode) r b e = refl
    not_both (ChainBegin chain mode) r b e = refl
    not_both call r b e = absurd (none-some b e)

    -- ---- what is submitted

    -- it began at a place that was not spent before, and that the call spends
    abbrev IsSubmitted : Call → Reply → Sent → Type 0
    IsSubmitted call r x = (place : ℕ) × (x.base ≡ unwrap_or (began_at answered place) nowhere) × (is_spent answered place ≡ false) × ((other : ℕ) → spends call r other ≡ nat_eq place other)

    submits : (client : ℕ) (call : Call) (x : Sent) → sent_by answered call (reply_to world answered client call) ≡ Some x → IsSubmitted call (reply_to world answered client call) x
    submits client (Submit place ops) x =
        let Told : Reply → Type 0 = λ r. sent_by answered (Submit place ops) r ≡ Some x → IsSubmitted (Submit place ops) r x in
        cond_both (nat_lt (pending answered) 4096) (if is_spent answered place then Refused TxSpent else Receipt (length ss + 1)) (Refused PipelineFull) Told
        (λ few.
        cond_both (is_spent answered place) (Refused TxSpent) (Receipt (length ss + 1)) Told
        (λ spent e. absurd (none-some x e))
        (λ unspent e.
        (place, ap (λ (s : Sent). s.base) (sym (same_Some (record { base = unwrap_or (began_at answered place) nowhere; ops = ops }) x e)), unspent, λ other. refl)))
        (λ many e. absurd (none-some x e))
    submits client call x = λ e. absurd (none-some x e)

    sent_on : (x : Sent) (place : ℕ) → x.base ≡ unwrap_or (began_at answered place) nowhere → is_spent answered place ≡ false → (x.base ≡ nowhere) ⊎ IsStack ss os ss x.base
    sent_on x place at unspent = by (began_at answered place) refl at
      where
        by : (o : Option Base) → began_at answered place ≡ o → x.base ≡ unwrap_or o nowhere → (x.base ≡ nowhere) ⊎ IsStack ss os ss x.base
        by None none e = inl e
        by (Some b) some e = inr (subst (IsStack ss os ss) (sym e) (was.open_on b (place, some, unspent)))

    -- two open transactions of one chain are one
    same_place : (x : Sent) (place other : ℕ) (b : Base) → x.base ≡ unwrap_or (began_at answered place) nowhere → is_spent answered place ≡ false → began_at answered other ≡ Some b → is_spent answered other ≡ false
        → is_in b.chain x ≡ true → place ≡ other
    same_place x place other b at unspent there free own = of b.chain refl
      where
        of : (c : Option ℕ) → b.chain ≡ c → place ≡ other
        of None e = let none : false ≡ true = ap (λ (d : Option ℕ). is_of_chain d x.base.chain) (sym e) ∙ own in cc
        of (Some chain) e = begun (began_at answered place) refl at
          where
            chains : x.base.chain ≡ Some chain
            chains = sym (same_chain b.chain x.base.chain own) ∙ e

            begun : (o : Option Base) → began_at answered place ≡ o → x.base ≡ unwrap_or o nowhere → place ≡ other
            begun None f g = absurd (none-some chain (ap (λ (y : Base). y.chain) (sym g) ∙ chains))
            begun (Some y) f g = same_Some place other (sym (sound.last place y chain f (ap (λ (z : Base). z.chain) (sym g) ∙ chains) unspent) ∙ sound.last other b chain there e free)

    apart : (b : Bool) → (b ≡ true → ⊥) → b ≡ false
    apart true no_way = absurd (no_way refl)
    apart false no_way = refl

    -- ---- one entry more

    module _ (e : Entry) where
      abbrev reply : Reply
      reply = reply_to world answered e.client e.call

      abbrev now : Answered
      now = answered_as world answered e reply

      abbrev later : List Answered
      later = answered ++ now ∷ []

      grow : (before : List Sent) (b : Base) → IsStack ss os before b → IsStack (sents later) (outcomes later) before b
      grow before b is =
          let longer : length os ≤ length (os ++ now.decided) = omega (arith, length-append os now.decided) in
          subst (λ (ts : List Sent). IsStack ts (outcomes later) before b) (sym (sents-push answered now))
          (subst (λ (ps : List Outcome). IsStack (ss ++ option_to_list now.sent) ps before b) (sym (outcomes-push answered now))
          (restack ss (ss ++ option_to_list now.sent) os (os ++ now.decided) before b longer (λ n le. done_same b.domain ss now.sent os now.decided n sound.known.within le) is))

      -- a transaction that is open after a call that submits another chain's, or none
      still : (b : Base) (o : Option Sent) → now.sent ≡ o → ((x : Sent) → now.sent ≡ Some x → is_in b.chain x ≡ false) → IsStack ss os ss b → IsStack (sents later) (outcomes later) (sents later) b
      still b o is others was_on =
          subst (λ (ts : List Sent). IsStack (sents later) (outcomes later) ts b) (sym (sents-push answered now ∙ ap (λ (x : Option Sent). ss ++ option_to_list x) is))
          (grow (ss ++ option_to_list o) b (behind ss os ss (ss ++ option_to_list o) b (by o is) was_on))
        where
          by : (o : Option Sent) → now.sent ≡ o → (n : ℕ) → n ≤ length os → own_after b n ss ≡ own_after b n (ss ++ option_to_list o)
          by None none n le = ap (own_after b n) (sym (append-nil ss))
          by (Some x) some n le =
              sym (ap (filter (is_in b.chain)) (drop-append-le n ss (x ∷ []) (omega (arith, le, sound.known.within)))
              ∙ filter-append (is_in b.chain) (drop n ss) (x ∷ [])
              ∙ ap (λ c. own_after b n ss ++ cond c (x ∷ []) []) (others x some)
              ∙ append-nil (own_after b n ss))

      unspent-now : (place : ℕ) → is_spent later place ≡ false → (is_spent answered place ≡ false) × (spends e.call reply place ≡ false)
      unspent-now place free =
          let test : Answered → Bool = λ a. spends a.entry.call a.reply place in
          let parts = or_parts (is_spent answered place) (list_any test (now ∷ [])) (sym (list_any-append test answered (now ∷ [])) ∙ free) in
          (parts.0, (or_parts (test now) false parts.1).0)

      begun_before : (place : ℕ) (b : Base) → began_at later place ≡ Some b → (began_at answered place ≡ Some b) ⊎ (began_by world answered e.call reply ≡ Some b)
      begun_before place b at =
          option_and_then_some (λ (a : Answered). a.began) (slice_get later place) b at (λ a found is.
          elim (last_or_before answered now a place found) [
            | inl old ↦ inl (ap (option_and_then (λ (x : Answered). x.began)) old ∙ is)
            | inr w ↦ inr (ap (λ (x : Answered). x.began) w.1 ∙ is)
          ])

      open_now : (b : Base) → IsOpen later b → IsStack (sents later) (outcomes later) (sents later) b
      open_now b is =
          let free = unspent-now is.0 is.2 in
          elim (begun_before is.0 b is.1) [
            | inl old ↦
                still b now.sent refl (λ x some.
                let by = submits e.client e.call x some in
                apart (is_in b.chain x) (λ own.
                let same : by.0 ≡ is.0 = same_place x by.0 is.0 b by.1 by.2 old free.0 own in
                let both : true ≡ false = sym (eq-eqb by.0 is.0 same) ∙ sym (by.3 is.0) ∙ free.1 in
                cc)) (was.open_on b (is.0, old, free.0))
            | inr new ↦
                let none : now.sent ≡ None = not_both e.call reply b new in
                still b None none (λ x some. absurd (none-some x (sym none ∙ some))) (begins e.client e.call b new)
          ]

      begun_now : (place : ℕ) (a : Answered) (b : Base) → slice_get later place ≡ Some a → a.began ≡ Some b → IsStack (sents later) (outcomes later) (sents (take place later)) b
      begun_now place a b at began = elim (last_or_before answered now a place at) [
        | inl old ↦
            let inside = slice_get_within answered place a old in
            let front : take place later ≡ take place answered = take-append-le place answered (now ∷ []) (omega (arith, inside)) in
            subst (λ (l : List Answered). IsStack (sents later) (outcomes later) (sents l) b) (sym front) (grow (sents (take place answered)) b (was.begun place a b old began))
        | inr w ↦
            let front : take place later ≡ answered = ap (λ k. take k later) w.0 ∙ take-append_seam answered (now ∷ []) in
            subst (λ (l : List Answered). IsStack (sents later) (outcomes later) (sents l) b) (sym front)
            (grow ss b (begins e.client e.call b (ap (λ (x : Answered). x.began) w.1 ∙ began)))
      ]

      sent_now : (o : Option Sent) → now.sent ≡ o → (r : ℕ) (x : Sent) → slice_get (ss ++ option_to_list o) r ≡ Some x → (x.base ≡ nowhere) ⊎ IsStack (sents later) (outcomes later) (take r (ss ++ option_to_list o)) x.base
      sent_now None none r x at =
          subst (λ (l : List Sent). (x.base ≡ nowhere) ⊎ IsStack (sents later) (outcomes later) (take r l) x.base) (sym (append-nil ss))
          (grown r x (was.sent r x (ap (λ (l : List Sent). slice_get l r) (sym (append-nil ss)) ∙ at)))
        where
          grown : (r : ℕ) (x : Sent) → (x.base ≡ nowhere) ⊎ IsStack ss os (take r ss) x.base → (x.base ≡ nowhere) ⊎ IsStack (sents later) (outcomes later) (take r ss) x.base
          grown r x (inl e) = inl e
          grown r x (inr is) = inr (grow (take r ss) x.base is)
      sent_now (Some y) some r x at = elim (last_or_before ss y x r at) [
        | inl old ↦
            let inside = slice_get_within ss r x old in
            let front : take r (ss ++ y ∷ []) ≡ take r ss = take-append-le r ss (y ∷ []) (omega (arith, inside)) in
            elim (was.sent r x old) [
              | inl e ↦ inl e
              | inr is ↦ inr (subst (λ (l : List Sent). IsStack (sents later) (outcomes later) l x.base) (sym front) (grow (take r ss) x.base is))
            ]
        | inr w ↦
            let front : take r (ss ++ y ∷ []) ≡ ss = ap (λ k. take k (ss ++ y ∷ [])) w.0 ∙ take-append_seam ss (y ∷ []) in
            let by = submits e.client e.call x (some ∙ ap Some w.1) in
            elim (sent_on x by.0 by.1 by.2) [
              | inl e ↦ inl e
              | inr is ↦ inr (subst (λ (l : List Sent). IsStack (sents later) (outcomes later) l x.base) (sym front) (grow ss x.base is))
            ]
      ]

      pub stacked_now : AreStacked later
      stacked_now =
          record {
            begun = begun_now;
            open_on = open_now;
            sent = λ r x at.
                subst (λ (l : List Sent). (x.base ≡ nowhere) ⊎ IsStack (sents later) (outcomes later) (take r l) x.base) (sym (sents-push answered now))
                (sent_now now.sent refl r x (ap (λ (l : List Sent). slice_get l r) (sym (sents-push answered now)) ∙ at));
          }

  -- ---- all entries

  stacked_fold : (answered : List Answered) (log : List Entry) → IsSound world answered → AreStacked answered → AreStacked (fold (answer world) answered log)
  stacked_fold answered [] sound was = was
  stacked_fold answered (e ∷ log) sound was = stacked_fold (answer world answered e) log (IsSound-answer world answered sound e) (stacked_now answered sound was e)

  stacked : (log : List Entry) → AreStacked (history world log)
  stacked log =
      stacked_fold [] log (IsSound-nothing world)
      (record { begun = λ place a b at began. absurd (none-some a at); open_on = λ b is. absurd (none-some b is.1); sent = λ r x at. absurd (none-some x at) })

  -- over the whole log the trees are those at a commit
  pub one_commit : (answered : List Answered) (before : List Sent) (b : Base) → IsStack (sents answered) (outcomes answered) before b → ReadsOneCommit world answered before b
  one_commit answered before b is =
      let os = outcomes answered in
      let ss = sents answered in
      let front = done b.domain ss (take is.receipts os) in
      let later = front_of b.domain ss os is.receipts (length os) is.decided in
      let whole : commits answered b.domain ≡ ops_in front ++ ops_in later.0 =
      ap (λ (ps : List Outcome). done_ops b.domain ss ps) (sym (take_all (length os) os (omega arith))) ∙ ap ops_in later.1 ∙ map-append (λ (x : Sent). x.ops) front later.0 in
      let part : take b.commit (commits answered b.domain) ≡ ops_in front = (λ i. take (is.commit i) (whole i)) ∙ take-append_seam (ops_in front) (ops_in later.0) in
      record {
        receipts = is.receipts;
        decided = is.decided;
        commit = is.commit;
        trees = λ s. is.trees s ∙ ap (λ (cs : List (List Op)). fold played (λ u. tree_after u (opening_of world b.domain u) cs) (own_after b is.receipts before) s) (sym part);
      }

pub snapshots_are_read : SnapshotsAreRead
snapshots_are_read world log place a b at began = one_commit world (history world log) (sents (take place (history world log))) b ((stacked world log).begun place a b at began)
