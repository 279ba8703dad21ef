-- The answers by lists of numbers are the log's.
use Rattle.std.proofs.Common.{◌≡◌, ℕ, zero, suc, ◌+◌, ◌-◌, ◌<◌, ◌≤◌, Bool, true, false, not, ◌&&◌, List, [], ◌∷◌, ◌++◌, length, map, min, take, Option, None, Some, inl, inr, refl, ap, sym, ◌∙◌, arith, append-nil, append_assoc, length-append, if◌then◌else◌, nat_eq, nat_lt}
use Rattle.std.specs.Prelude.{◌⊎◌, slice_get, option_and_then, unwrap_or}
use Rattle.std.specs.List.{filter_map, fold, list_any}
use Rattle.std.specs.Option.{option_map, option_map_or, option_or, option_to_list}
use Rattle.std.proofs.lemmas.Bool.{cases_lt}
use Rattle.std.proofs.lemmas.Grind.{flat_map-append}
use Rattle.std.proofs.lemmas.List.{length-map, map-append}
use Rattle.std.proofs.lemmas.List.Elements.{filter_map-append}
use Rattle.std.proofs.lemmas.Bool.Decides.{nat_tests}
use Rattle.std.proofs.Math.Seq.{take-append_seam}
use Rattle.sal_rows.specs.declared.op.Op.{Op}
use Rattle.sal_rows.specs.declared.outcome.CallFault.{CallFault}
use Rattle.sal_rows.specs.declared.outcome.CallFault.TheVariants.{ChainClosed, ChainFailed, NoDomain, PipelineFull, PreviousOpen, TxSpent}
use Rattle.sal_rows.specs.declared.outcome.Outcome.{Outcome}
use Rattle.sal_rows.specs.Spans.{is_of_chain}
use Rattle.sal_history.specs.declared.call.Call.{Call}
use Rattle.sal_history.specs.declared.call.Call.TheVariants.{Begin, OpenChain, ChainBegin, CloseChain, Submit, Cancel, Settle, Pump, Mount, Unmount, MountAt, Mark, After}
use Rattle.sal_history.specs.declared.call.Entry.{Entry}
use Rattle.sal_history.specs.declared.reply.Reply.{Reply}
use Rattle.sal_history.specs.declared.reply.Reply.TheVariants.{Begun, Chain, Accepted, Receipt, Found, Late, Refused}
use Rattle.sal_history.specs.Answered.{Answered}
use Rattle.sal_history.specs.History.{answer, answered_as, base_on, began_by, begins_in, chain_domains, chain_refusal, chained_base, closes, commits, decide_front, decide_next, decided_by, domain_of, fault_if, has_open, history, is_closed, is_live, is_marked, is_spent, last_begun, marks, nowhere, opened_chain, outcome, outcomes, pumped, refused_or, reply_to, sent_by, sents, settled, spends, stands_on}
use Rattle.sal_history.specs.Numbered.{numbered}
use Rattle.sal_history.specs.Services.{mount_call, mounting}
use Rattle.sal_history.specs.Submissions.{Base, Sent, done, done_ops, failing_from, is_done, is_in, last_from}
use Rattle.sal_history.specs.Versions.{tables_now}
use Rattle.sal_history.specs.World.{Domain}
use Rattle.sal_history.proofs.Numbered.{numbered-map}
use Rattle.sal_schema.specs.declared.table.SchemaTable.{SchemaTable}
use Rattle.sal_types.proofs.Handy.{listed}
use Rattle.sal_retell.specs.declared.front.Footing.{Footing}
use Rattle.sal_retell.specs.Told.{told, told_in}
use Rattle.sal_retell.specs.Light as light_of
use Rattle.sal_retell.specs.Light.{Light, light, footing_of, sent_on, began_on, spent_by, closed_by, marked_by, has, is_on, begins_on, commits_of, failing_on, later_than, is_unspent, nowhere_on, settled_on, pumped_on, decided_after, began_with, sent_with, more_light, next_light, answers_on, call_in, begun_on}
use Rattle.sal_retell.proofs.Walks.{last_from-through, list_any-through, map-listed, slice_get-map, slice_get_none, slice_get_seam, slice_get_some}

-- ---- submissions and outcomes

commits_step : (b c : Bool) (s : Sent) (rest : List Sent) (n : ℕ) → n ≡ length (map (λ (x : Sent). x.ops) rest)
    → (if b && c then 1 else 0) + n ≡ length (map (λ (x : Sent). x.ops) ((if b then (if c then s ∷ [] else []) else []) ++ rest))
commits_step true true s rest n e = omega (arith, e)
commits_step true false s rest n e = omega (arith, e)
commits_step false c s rest n e = omega (arith, e)

pub commits_same : (domain : ℕ) (ss : List Sent) (os : List Outcome) → commits_of domain (map sent_on ss) os ≡ length (done_ops domain ss os)
commits_same domain [] os = refl
commits_same domain (s ∷ ss) [] = refl
commits_same domain (s ∷ ss) (o ∷ os) = commits_step (nat_eq s.base.domain domain) (is_done o) s (done domain ss os) (commits_of domain (map sent_on ss) os) (commits_same domain ss os)

failing_same : (n chain : ℕ) (ss : List Sent) (os : List Outcome) → failing_on n chain (map sent_on ss) os ≡ failing_from n (Some chain) ss os
failing_same n chain [] os = refl
failing_same n chain (s ∷ ss) [] = refl
failing_same n chain (s ∷ ss) (o ∷ os) = ap (λ (r : Option ℕ). if is_in (Some chain) s && not (is_done o) then Some n else r) (failing_same (n + 1) chain ss os)

begins_same : (chain : ℕ) (o : Option Base) → begins_on chain (option_map footing_of o) ≡ option_map_or (λ b. is_of_chain (Some chain) b.chain) o false
begins_same chain None = refl
begins_same chain (Some b) = refl

-- ---- calls

spends_same : (c : Call) (r : Reply) (n : ℕ) → option_map_or (λ x. nat_eq x n) (spent_by c r) false ≡ spends c r n
spends_same (Submit place ops) (Receipt k) n = refl
spends_same (Submit place ops) r n = refl
spends_same (Cancel place) r n = refl
spends_same c r n = refl

closes_same : (c : Call) (r : Reply) (n : ℕ) → option_map_or (λ x. nat_eq x n) (closed_by c r) false ≡ closes c r n
closes_same (CloseChain id) Accepted n = refl
closes_same (CloseChain id) r n = refl
closes_same c r n = refl

marks_same : (c : Call) (n : ℕ) → option_map_or (λ x. nat_eq x n) (marked_by c) false ≡ marks c n
marks_same (Mark m) n = refl
marks_same c n = refl

spent_told : (c : Call) (r : Reply) → spent_by c (told c r) ≡ spent_by c r
spent_told (Submit place ops) r = refl
spent_told (Cancel place) r = refl
spent_told c r = refl

closed_told : (c : Call) (r : Reply) → closed_by c (told c r) ≡ closed_by c r
closed_told (CloseChain id) r = refl
closed_told c r = refl

opened_told : (c : Call) (r : Reply) → opened_chain c (told c r) ≡ opened_chain c r
opened_told (OpenChain domain) r = refl
opened_told c r = refl

-- ---- along a log

module _ (world : List Domain) where
  abbrev now_of : List Answered → Entry → Answered
  now_of answered e = answered_as world answered e (reply_to world answered e.client e.call)

  -- one entry more of what each gives
  more_of : {X : Type 0} (f : Answered → Option X) (answered : List Answered) (e : Entry) → filter_map f (answer world answered e) ≡ filter_map f answered ++ option_to_list (f (now_of answered e))
  more_of f answered e = filter_map-append f answered (now_of answered e ∷ []) ∙ listed (filter_map f answered) (f (now_of answered e))

  outcomes_more : (answered : List Answered) (e : Entry) → outcomes (answer world answered e) ≡ outcomes answered ++ decided_by world answered e.call
  outcomes_more answered e = flat_map-append (λ (a : Answered). a.decided) answered (now_of answered e ∷ []) ∙ ap (λ (os : List Outcome). outcomes answered ++ os) (append-nil (decided_by world answered e.call))

  -- the outcomes of a longer log begin with these
  pub outcomes_grow : (answered : List Answered) (log : List Entry) → (more : List Outcome) × (outcomes (fold (answer world) answered log) ≡ outcomes answered ++ more)
  outcomes_grow answered [] = ([], sym (append-nil (outcomes answered)))
  outcomes_grow answered (e ∷ log) =
      let rest = outcomes_grow (answer world answered e) log in (
        decided_by world answered e.call ++ rest.0,
        rest.1 ∙ ap (λ (os : List Outcome). os ++ rest.0) (outcomes_more answered e) ∙ append_assoc (outcomes answered) (decided_by world answered e.call) rest.0,
      )

  -- how many are decided next
  front_count : (tables : ℕ → SchemaTable) (up : ℕ → Bool) (ss : List Sent) (os : List Outcome) → ((length os < length ss) ⊎ (length ss ≤ length os)) → length (decide_front world tables up ss os (slice_get ss (length os))) ≡ min 1 (length ss - length os)
  front_count tables up ss os (inl h) =
      let there = slice_get_some ss (length os) h in
      ap (λ (o : Option Sent). length (decide_front world tables up ss os o)) there.1 ∙ (let one : 1 ≡ min 1 (length ss - length os) = omega (arith, h) in one)
  front_count tables up ss os (inr h) =
      ap (λ (o : Option Sent). length (decide_front world tables up ss os o)) (slice_get_none ss (length os) h) ∙ (let none : 0 ≡ min 1 (length ss - length os) = omega (arith, h) in none)

  next_count : (tables : ℕ → SchemaTable) (up : ℕ → Bool) (ss : List Sent) (os : List Outcome) (n : ℕ) → length (decide_next world tables up ss os n) ≡ min n (length ss - length os)
  next_count tables up ss os zero = let none : 0 ≡ min 0 (length ss - length os) = omega arith in none
  next_count tables up ss os (suc n) =
      let front = decide_front world tables up ss os (slice_get ss (length os)) in
      let first : length front ≡ min 1 (length ss - length os) = front_count tables up ss os (cases_lt (length os) (length ss)) in
      let rest : length (decide_next world tables up ss (os ++ front) n) ≡ min n (length ss - length (os ++ front)) = next_count tables up ss (os ++ front) n in
      omega (arith, first, rest, length-append os front, length-append front (decide_next world tables up ss (os ++ front) n))

  decided_count : (answered : List Answered) (c : Call) → length (outcomes answered ++ decided_by world answered c) ≡ decided_after c (length (outcomes answered)) (length (map sent_on (sents answered)))
  decided_count answered (Settle r) =
      let ss = sents answered in
      let os = outcomes answered in
      omega (arith, length-append os (decided_by world answered (Settle r)), next_count (tables_now world answered) (is_live world answered) ss os (r - length os), length-map ss sent_on)
  decided_count answered Pump =
      let ss = sents answered in
      let os = outcomes answered in
      let grown : length (os ++ decided_by world answered Pump) ≡ length os + min 1 (length ss - length os) = omega (arith, length-append os (decided_by world answered Pump), next_count (tables_now world answered) (is_live world answered) ss os 1) in
      grown ∙ (let n : length ss ≡ length (map sent_on ss) = sym (length-map ss sent_on) in by_test (length os) (length ss) (cases_lt (length os) (length ss)) ∙ ap (λ (k : ℕ). if nat_lt (length os) k then length os + 1 else length os) n)
    where
      by_test : (a b : ℕ) → ((a < b) ⊎ (b ≤ a)) → a + min 1 (b - a) ≡ (if nat_lt a b then a + 1 else a)
      by_test a b (inl h) = (let t : true ≡ nat_lt a b = grind (arith, nat_tests) in (let n : a + min 1 (b - a) ≡ a + 1 = omega (arith, h) in n) ∙ ap (λ (x : Bool). if x then a + 1 else a) t)
      by_test a b (inr h) = (let t : false ≡ nat_lt a b = grind (arith, nat_tests) in (let n : a + min 1 (b - a) ≡ a = omega (arith, h) in n) ∙ ap (λ (x : Bool). if x then a + 1 else a) t)
  decided_count answered c = ap length (append-nil (outcomes answered))

  module _ (answered : List Answered) (os more : List Outcome) where
    abbrev l : Light
    l = light world answered

    abbrev ss : List Sent
    ss = sents answered

    spent_same : (n : ℕ) → has (light world answered).spent n ≡ is_spent answered n
    spent_same n = list_any-through (λ x. nat_eq x n) (λ (a : Answered). spends a.entry.call a.reply n) (λ (a : Answered). spent_by a.entry.call a.reply) (λ a. spends_same a.entry.call a.reply n) answered

    closed_same : (n : ℕ) → has (light world answered).closed n ≡ is_closed answered n
    closed_same n = list_any-through (λ x. nat_eq x n) (λ (a : Answered). closes a.entry.call a.reply n) (λ (a : Answered). closed_by a.entry.call a.reply) (λ a. closes_same a.entry.call a.reply n) answered

    marked_same : (n : ℕ) → has (light world answered).marks n ≡ is_marked answered n
    marked_same n = list_any-through (λ x. nat_eq x n) (λ (a : Answered). marks a.entry.call n) (λ (a : Answered). marked_by a.entry.call) (λ a. marks_same a.entry.call n) answered

    unspent_same : (o : Option ℕ) → is_unspent (light world answered).spent o ≡ option_map_or (λ place. not (is_spent answered place)) o false
    unspent_same None = refl
    unspent_same (Some place) = ap not (spent_same place)

    open_same : (chain : ℕ) → light_of.has_open (light world answered) chain ≡ has_open answered chain
    open_same chain =
        ap (is_unspent l.spent) (last_from-through 0 (begins_on chain) (begins_in chain) began_on (λ a. begins_same chain a.began) answered) ∙ unspent_same (last_begun answered chain)

    pending_same : (chain : ℕ) → light_of.pending_on (light world answered) chain ≡ stands_on answered chain
    pending_same chain = ap (later_than l.decided) (last_from-through 1 (is_on chain) (is_in (Some chain)) sent_on (λ s. refl) ss)

    module _ (front : take (length (outcomes answered)) os ≡ outcomes answered) where
      newest_same : (domain : ℕ) → commits_of domain (map sent_on (sents answered)) (take (length (outcomes answered)) os) ≡ length (commits answered domain)
      newest_same domain = ap (commits_of domain (map sent_on ss)) front ∙ commits_same domain ss (outcomes answered)

      standing_same : (chain : ℕ) (o : Option Sent) → light_of.standing_on (light world answered) os chain (option_map sent_on o) ≡ footing_of (base_on world answered chain o)
      standing_same chain None = ap (λ (n : ℕ). (let f : Footing = record { domain = domain_of answered chain; commit = n; chain = Some chain } in f)) (newest_same (domain_of answered chain))
      standing_same chain (Some s) = refl

      sent_at : (o : Option ℕ) → option_and_then (λ n. numbered (map sent_on (sents answered)) n) o ≡ option_map sent_on (option_and_then (λ n. numbered (sents answered) n) o)
      sent_at None = refl
      sent_at (Some n) = numbered-map sent_on ss n

      chained_same : (chain : ℕ) → light_of.chained_on (light world answered) os chain ≡ footing_of (chained_base world answered chain)
      chained_same chain =
          ap (λ (o : Option ℕ). light_of.standing_on l os chain (option_and_then (λ n. numbered (map sent_on ss) n) o)) (pending_same chain)
          ∙ ap (light_of.standing_on l os chain) (sent_at (stands_on answered chain))
          ∙ standing_same chain (option_and_then (λ n. numbered ss n) (stands_on answered chain))

      refusal_same : (chain : ℕ) → light_of.refusal_with (light world answered) os (is_live world answered (domain_of answered chain)) chain ≡ chain_refusal world answered chain
      refusal_same chain =
          let last : Option CallFault = fault_if (not (is_live world answered (domain_of answered chain))) (NoDomain (domain_of answered chain)) in
          (λ i. option_or (fault_if (closed_same chain i) ChainClosed) (option_or (option_map ChainFailed ((ap (failing_on 1 chain (map sent_on ss)) front ∙ failing_same 1 chain ss (outcomes answered)) i)) (option_or (fault_if (open_same chain i) PreviousOpen) last)))

      -- ---- the answer

      settled_same : (s : Option Sent) (o : Option Outcome) → settled_on (option_map sent_on s) o ≡ settled s o
      settled_same None o = refl
      settled_same (Some s) None = refl
      settled_same (Some s) (Some o) = refl

      pumped_same : (s : Option Sent) → slice_get (sents answered) (length (outcomes answered)) ≡ s → os ≡ (outcomes answered ++ decided_by world answered Pump) ++ more
          → pumped_on (length (outcomes answered) + 1) (option_map sent_on s) (slice_get os (length (outcomes answered))) ≡ pumped (length (outcomes answered) + 1) s (decided_by world answered Pump)
      pumped_same None at whole = refl
      pumped_same (Some s) at whole =
          let n = length (outcomes answered) in
          let x : Outcome = outcome world (tables_now world answered) (is_live world answered) ss (outcomes answered) s in
          let one : decided_by world answered Pump ≡ x ∷ [] = ap (λ (o : Option Sent). decide_front world (tables_now world answered) (is_live world answered) ss (outcomes answered) o ++ []) at in
          let there : slice_get os n ≡ Some x =
          ap (λ (xs : List Outcome). slice_get xs n) (whole ∙ ap (λ (xs : List Outcome). (outcomes answered ++ xs) ++ more) one ∙ append_assoc (outcomes answered) (x ∷ []) more) ∙ slice_get_seam (outcomes answered) x more in
          ap (pumped_on (n + 1) (Some (sent_on s))) there ∙ sym (ap (pumped (n + 1) (Some s)) one)

      pub answer_same : (client : ℕ) (c : Call) → os ≡ (outcomes answered ++ decided_by world answered c) ++ more → light_of.answer_on (light world answered) os c ≡ told c (reply_to world answered client c)
      answer_same client (Begin domain mode) whole = ap (begun_on (is_live world answered domain) domain) (newest_same domain)
      answer_same client (OpenChain domain) whole = refl
      answer_same client (ChainBegin chain mode) whole =
          (λ i. refused_or (refusal_same chain i) (Begun (chained_same chain i).commit (pending_same chain i)))
      answer_same client (CloseChain chain) whole = ap (λ (b : Bool). refused_or (fault_if b ChainClosed) Accepted) (closed_same chain)
      answer_same client (Submit place ops) whole =
          (λ i. if nat_lt (length-map ss sent_on i - length (outcomes answered)) 4096 then (if spent_same place i then Refused TxSpent else Receipt (length-map ss sent_on i + 1)) else Refused PipelineFull)
      answer_same client (Cancel place) whole = refl
      answer_same client (Settle receipt) whole =
          let next = outcomes answered ++ decided_by world answered (Settle receipt) in
          let taken : take (decided_after (Settle receipt) (length (outcomes answered)) (length (map sent_on ss))) os ≡ next =
          ap (λ (n : ℕ). take n os) (sym (decided_count answered (Settle receipt))) ∙ ap (take (length next)) whole ∙ take-append_seam next more in
          (λ i. settled_on (numbered-map sent_on ss receipt i) (numbered (taken i) receipt))
          ∙ settled_same (numbered ss receipt) (numbered next receipt)
      answer_same client Pump whole =
          ap (λ (o : Option Footing). pumped_on (length (outcomes answered) + 1) o (slice_get os (length (outcomes answered)))) (slice_get-map sent_on ss (length (outcomes answered)))
          ∙ pumped_same (slice_get ss (length (outcomes answered))) refl whole
      answer_same client (Mount path device) whole = refl
      answer_same client (Unmount domain) whole = refl
      answer_same client (MountAt path) whole = refl
      answer_same client (Mark mark) whole = refl
      answer_same client (After mark) whole = ap (λ (b : Bool). if b then Found else Late) (marked_same mark)
      answer_same client c whole = refl

      -- ---- what is kept

      began_same : (c : Call) (r : Reply) → option_map footing_of (began_by world answered c r) ≡ began_with (light_of.asked_on (light world answered) os c) c (told c r)
      began_same (Begin domain mode) (Begun commit on) = ap (λ (n : ℕ). Some (let f : Footing = record { domain = domain; commit = n; chain = None } in f)) (sym (newest_same domain))
      began_same (Begin domain mode) r = refl
      began_same (ChainBegin chain mode) (Begun commit on) = ap Some (sym (chained_same chain))
      began_same (ChainBegin chain mode) r = refl
      began_same c r = refl

      footing_of_began : (o : Option Base) → unwrap_or (option_map footing_of o) nowhere_on ≡ footing_of (unwrap_or o nowhere)
      footing_of_began None = refl
      footing_of_began (Some b) = refl

      footing_in : (o : Option Answered) → unwrap_or (unwrap_or (option_map began_on o) None) nowhere_on ≡ footing_of (unwrap_or (option_and_then (λ (a : Answered). a.began) o) nowhere)
      footing_in None = refl
      footing_in (Some a) = footing_of_began a.began

      sent_same : (c : Call) (r : Reply) → option_map sent_on (sent_by answered c r) ≡ sent_with (map began_on answered) c (told c r)
      sent_same (Submit place ops) (Receipt n) =
          ap Some (sym (ap (λ (o : Option (Option Footing)). unwrap_or (unwrap_or o None) nowhere_on) (slice_get-map began_on answered place) ∙ footing_in (slice_get answered place)))
      sent_same (Submit place ops) r = refl
      sent_same c r = refl

      pub light_same : (e : Entry) → os ≡ (outcomes answered ++ decided_by world answered e.call) ++ more → light world (answer world answered e) ≡ next_light os (light world answered) e.call
      light_same e whole =
          let c = e.call in
          let r = reply_to world answered e.client c in
          let f = light_of.asked_on l os c in
          let told_r : told c r ≡ light_of.answer_on l os c = sym (answer_same e.client c whole) in
          let began : map began_on (answer world answered e) ≡ l.began ++ began_with f c (told c r) ∷ [] =
          map-append began_on answered (now_of answered e ∷ []) ∙ ap (λ (o : Option Footing). l.began ++ o ∷ []) (began_same c r) in
          let sent : map sent_on (sents (answer world answered e)) ≡ l.sent ++ option_to_list (sent_with l.began c (told c r)) =
          ap (map sent_on) (more_of (λ (a : Answered). a.sent) answered e) ∙ map-append sent_on ss (option_to_list (sent_by answered c r))
          ∙ ap (λ (xs : List Footing). l.sent ++ xs) (map-listed sent_on (sent_by answered c r) ∙ ap option_to_list (sent_same c r)) in
          let chains : chain_domains (answer world answered e) ≡ l.chains ++ option_to_list (opened_chain c (told c r)) =
          more_of (λ (a : Answered). opened_chain a.entry.call a.reply) answered e ∙ ap (λ (o : Option ℕ). l.chains ++ option_to_list o) (sym (opened_told c r)) in
          let closed : filter_map (λ (a : Answered). closed_by a.entry.call a.reply) (answer world answered e) ≡ l.closed ++ option_to_list (closed_by c (told c r)) =
          more_of (λ (a : Answered). closed_by a.entry.call a.reply) answered e ∙ ap (λ (o : Option ℕ). l.closed ++ option_to_list o) (sym (closed_told c r)) in
          let spent : filter_map (λ (a : Answered). spent_by a.entry.call a.reply) (answer world answered e) ≡ l.spent ++ option_to_list (spent_by c (told c r)) =
          more_of (λ (a : Answered). spent_by a.entry.call a.reply) answered e ∙ ap (λ (o : Option ℕ). l.spent ++ option_to_list o) (sym (spent_told c r)) in
          let marked : filter_map (λ (a : Answered). marked_by a.entry.call) (answer world answered e) ≡ l.marks ++ option_to_list (marked_by c) =
          more_of (λ (a : Answered). marked_by a.entry.call) answered e in
          let decided : length (outcomes (answer world answered e)) ≡ decided_after c l.decided (length l.sent) = ap length (outcomes_more answered e) ∙ decided_count answered c in
          let calls : mounting (answer world answered e) ≡ l.calls ++ option_to_list (mount_call c) = more_of (λ (a : Answered). mount_call a.entry.call) answered e in
          (λ i. (let x : Light = record { began = began i; sent = sent i; chains = chains i; closed = closed i; spent = spent i; marks = marked i; decided = decided i; devices = length world; calls = calls i } in x))
          ∙ ap (more_light l f c) told_r

  -- ---- the whole log

  pub retold : (answered : List Answered) (log : List Entry) (os : List Outcome) → os ≡ outcomes (fold (answer world) answered log)
      → (map told_in (fold (answer world) answered log) ≡ map told_in answered ++ answers_on os (light world answered) (map call_in log)) × (light world (fold (answer world) answered log) ≡ fold (next_light os) (light world answered) (map call_in log))
  retold answered [] os whole = (sym (append-nil (map told_in answered)), refl)
  retold answered (e ∷ log) os whole =
      let rest = outcomes_grow (answer world answered e) log in
      let all : os ≡ (outcomes answered ++ decided_by world answered e.call) ++ rest.0 = whole ∙ rest.1 ∙ ap (λ (xs : List Outcome). xs ++ rest.0) (outcomes_more answered e) in
      let front : take (length (outcomes answered)) os ≡ outcomes answered =
      ap (take (length (outcomes answered))) (all ∙ append_assoc (outcomes answered) (decided_by world answered e.call) rest.0) ∙ take-append_seam (outcomes answered) (decided_by world answered e.call ++ rest.0) in
      let now : light world (answer world answered e) ≡ next_light os (light world answered) e.call = light_same answered os rest.0 front e all in
      let said_now : told e.call (reply_to world answered e.client e.call) ≡ light_of.answer_on (light world answered) os e.call = sym (answer_same answered os rest.0 front e.client e.call all) in
      let after = retold (answer world answered e) log os whole in
      let l' = next_light os (light world answered) e.call in (
        after.0
            ∙ ap (λ (x : Light). map told_in (answer world answered e) ++ answers_on os x (map call_in log)) now
            ∙ ap (λ (rs : List Reply). rs ++ answers_on os l' (map call_in log)) (map-append told_in answered (now_of answered e ∷ []) ∙ ap (λ (r : Reply). map told_in answered ++ r ∷ []) said_now)
            ∙ append_assoc (map told_in answered) (light_of.answer_on (light world answered) os e.call ∷ []) (answers_on os l' (map call_in log)),
        after.1 ∙ ap (λ (x : Light). fold (next_light os) x (map call_in log)) now,
      )

  entries_in : (answered : List Answered) (log : List Entry) → map (λ (a : Answered). a.entry) (fold (answer world) answered log) ≡ map (λ (a : Answered). a.entry) answered ++ log
  entries_in answered [] = sym (append-nil (map (λ (a : Answered). a.entry) answered))
  entries_in answered (e ∷ log) =
      entries_in (answer world answered e) log
      ∙ ap (λ (es : List Entry). es ++ log) (map-append (λ (a : Answered). a.entry) answered (now_of answered e ∷ []))
      ∙ append_assoc (map (λ (a : Answered). a.entry) answered) (e ∷ []) log

  pub entries_of_history : (log : List Entry) → map (λ (a : Answered). a.entry) (history world log) ≡ log
  entries_of_history log = entries_in [] log
