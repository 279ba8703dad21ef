-- All that a hub keeps stays the log's with each call.
use Rattle.std.proofs.Common.{◌≡◌, ◌⊎◌, ℕ, zero, suc, ◌+◌, ◌-◌, ◌<◌, ◌≤◌, Bool, true, false, List, [], ◌∷◌, ◌++◌, length, set, Option, None, Some, Result, Ok, Err, refl, ap, sym, ◌∙◌, subst, arith, append-nil, length-set, if◌then◌else◌, inl, inr, nat_eq, nat_lt}
use Rattle.std.specs.Prelude.{unwrap_or, ◌||◌}
use Rattle.std.specs.Option.{option_map_or, option_or}
use Rattle.std.proofs.lemmas.Bool.Decides.{nat_tests}
use Rattle.std.proofs.lemmas.List.Folds.{list_any-append}
use Rattle.sal_rows.specs.declared.op.Op.{Op}
use Rattle.sal_rows.specs.declared.outcome.CallFault.{CallFault}
use Rattle.sal_rows.specs.declared.outcome.CallFault.TheVariants.{ChainClosed, HistoryFull, NoMemory, PipelineFull, TxSpent}
use Rattle.sal_rows.specs.declared.outcome.Mode.{Mode}
use Rattle.sal_rows.specs.Spans.{is_of_chain}
use Rattle.sal_tree.specs.declared.commit.Pair.{Pair}
use Rattle.sal_tx.specs.declared.begun.Begun.{Begun as Token}
use Rattle.sal_tx.specs.Views.{rows_in}
use Rattle.sal_rpc.specs.Routes.{Routes}
use Rattle.sal_note.specs.Boxes.{Boxes}
use Rattle.sal_history.specs.declared.call.Call.{Call}
use Rattle.sal_history.specs.declared.call.Call.TheVariants.{After, Begin, ChainBegin, CloseChain, Mark, OpenChain, Submit}
use Rattle.sal_history.specs.declared.call.Entry.{Entry}
use Rattle.sal_history.specs.declared.reply.Reply.{Reply}
use Rattle.sal_history.specs.declared.reply.Reply.TheVariants.{Accepted, Begun, Found, Late, Receipt, Refused}
use Rattle.sal_history.specs.World.{Domain}
use Rattle.sal_history.specs.History.{Answered, began_at, entries_of, began_by, begins_in, closes, fault_if, history, is_spent, marks, nowhere, opened_chain, pending, refused_or, reply_to, sent_by, sents, submitted}
use Rattle.sal_history.specs.Services.{mount_call, note_call, rpc_call}
use Rattle.sal_history.specs.Submissions.{Base, Sent}
use Rattle.sal_hub.specs.declared.chains.Chains.{Chains}
use Rattle.sal_hub.specs.declared.listeners.Listeners.{Listeners}
use Rattle.sal_hub.specs.declared.marks.Marks.{Marks}
use Rattle.sal_hub.specs.declared.pipeline.Pipeline.{Pipeline}
use Rattle.sal_hub.specs.declared.services.Services.{Services}
use Rattle.sal_hub.specs.Answers.{Calls, Fails, Made}
use Rattle.sal_hub.specs.Chains.{AreChains, AreSame}
use Rattle.sal_hub.specs.Current.{IsKept, known_of}
use Rattle.sal_hub.specs.Failures.{IsWithin, at_chain, flag_in, noted_in, noted_with}
use Rattle.sal_hub.specs.Journals.{Noted, jotted}
use Rattle.sal_hub.specs.HubHistory.{HubHistory, entry_of, more}
use Rattle.sal_hub.specs.Listeners.{AreListeners}
use Rattle.sal_mount.specs.Register.{Register}
use Rattle.sal_hub.specs.Marks.{AreMarked, has_mark, is_key}
use Rattle.sal_hub.specs.Notified.{AreNoted}
use Rattle.sal_hub.specs.Routed.{AreRouted}
use Rattle.sal_hub.specs.Mounted.{AreMounted}
use Rattle.sal_hub.specs.Services.{AreServed}
use Rattle.sal_hub.specs.Tokens.{IsBegun}
use Rattle.sal_hub.specs.Whole.{IsWhole}
use Rattle.sal_hub.proofs.Beginning.{made_now}
use Rattle.sal_hub.proofs.Chained.{chains_as, chains_now, member_within, same_chains, sent_in, steady}
use Rattle.sal_hub.proofs.Histories.{marked, now_of}
use Rattle.sal_hub.proofs.Keeping.{or_false, or_true}
use Rattle.sal_hub.proofs.Listened.{IsQuiet, is_listening, listeners_empty, listeners_steady, quiet_other, quiet_refused}
use Rattle.sal_hub.proofs.Noted.{at_chain_set, length-with, noted_in-with}
use Rattle.sal_hub.proofs.Served.{is_serving, served_by_mounts, served_by_notes, served_by_router, served_steady, serving_unbegun, serving_unclosed, serving_unheard, serving_unopened, serving_unsent}
use Rattle.sal_hub.proofs.Submitting.{swapped}

-- ---- marks

pub mark-push : (log : List Entry) (e : Entry) (m : ℕ) → has_mark (log ++ e ∷ []) m ≡ (has_mark log m || marks e.call m)
mark-push log e m =
    list_any-append (λ (x : Entry). marks x.call m) log (e ∷ [])
    ∙ elim (marks e.call m) as (λ b. (has_mark log m || (b || false)) ≡ (has_mark log m || b)) [ true ↦ refl | false ↦ refl ]

unmarked : (log : List Entry) (e : Entry) (ms : Marks) → ((m : ℕ) → marks e.call m ≡ false) → AreMarked log ms.map → AreMarked (log ++ e ∷ []) ms.map
unmarked log e ms none are = λ m. are m ∙ sym (mark-push log e m ∙ ap (λ b. has_mark log m || b) (none m) ∙ or_false (has_mark log m))

-- ---- calls that are refused

opened_refused : (call : Call) (f : CallFault) → opened_chain call (Refused f) ≡ None
opened_refused (OpenChain domain) f = refl
opened_refused call f = refl

closes_refused : (call : Call) (f : CallFault) (id : ℕ) → closes call (Refused f) id ≡ false
closes_refused (CloseChain chain) f id = refl
closes_refused call f id = refl

began_refused : (world : List Domain) (answered : List Answered) (call : Call) (f : CallFault) → began_by world answered call (Refused f) ≡ None
began_refused world answered (Begin domain mode) f = refl
began_refused world answered (ChainBegin chain mode) f = refl
began_refused world answered call f = refl

sent_refused : (answered : List Answered) (call : Call) (f : CallFault) → sent_by answered call (Refused f) ≡ None
sent_refused answered (Submit place ops) f = refl
sent_refused answered call f = refl

-- ---- one call

-- the invariants of the log that stay, if no chain and no mark changed
module _ (journal journal' : Noted) (p p' : Pipeline) (cs : Chains) (ms : Marks) (ls : Listeners) (sv : Services) (whole : IsWhole journal p cs ms ls sv) (kept : IsKept journal' p') where
  pub whole_same : known_of journal' p' ≡ known_of journal p → IsWhole journal' p' cs ms ls sv
  whole_same same = record {
    kept = kept;
    chains = subst (λ known. AreChains known cs) (sym same) whole.chains;
    marked = λ m. whole.marked m ∙ ap (λ (known : HubHistory). has_mark known.log m) (sym same);
    listeners = subst (λ known. AreListeners known ls) (sym same) whole.listeners;
    services = subst (λ known. AreServed known sv) (sym same) whole.services;
  }

  module _ (e : Entry) (quiet : (m : ℕ) → marks e.call m ≡ false) where
    abbrev world : List Domain
    world = (known_of journal p).world

    abbrev answered : List Answered
    answered = history (known_of journal p).world journal.log

    pub whole_quiet : known_of journal' p' ≡ more (known_of journal p) e → opened_chain e.call (reply_to (known_of journal p).world (history (known_of journal p).world journal.log) e.client e.call) ≡ None
        → ((id : ℕ) → closes e.call (reply_to (known_of journal p).world (history (known_of journal p).world journal.log) e.client e.call) id ≡ false)
        → ((id : ℕ) → begins_in id (now_of (known_of journal p).world (history (known_of journal p).world journal.log) e) ≡ false)
        → sent_by (history (known_of journal p).world journal.log) e.call (reply_to (known_of journal p).world (history (known_of journal p).world journal.log) e.client e.call) ≡ None
        → IsQuiet e.client e.call (reply_to (known_of journal p).world (history (known_of journal p).world journal.log) e.client e.call)
        → is_serving e.call ≡ false → IsWhole journal' p' cs ms ls sv
    whole_quiet longer unopened unclosed unbegun unsent unheard unserved = record {
      kept = kept;
      chains = subst (λ known. AreChains known cs) (sym longer) (steady (known_of journal p) e cs whole.chains cs (same_chains cs) unopened unclosed unbegun unsent);
      marked = λ m. unmarked journal.log e ms quiet whole.marked m ∙ ap (λ (known : HubHistory). has_mark known.log m) (sym longer);
      listeners = subst (λ known. AreListeners known ls) (sym longer) (listeners_steady (known_of journal p) e ls whole.listeners unheard);
      services = subst (λ known. AreServed known sv) (sym longer) (served_steady (known_of journal p) e sv unserved whole.services);
    }

    -- a call that is none of listeners or services
    pub whole_steady : is_listening e.call ≡ false → is_serving e.call ≡ false → known_of journal' p' ≡ more (known_of journal p) e → opened_chain e.call (reply_to (known_of journal p).world (history (known_of journal p).world journal.log) e.client e.call) ≡ None
        → ((id : ℕ) → closes e.call (reply_to (known_of journal p).world (history (known_of journal p).world journal.log) e.client e.call) id ≡ false)
        → ((id : ℕ) → begins_in id (now_of (known_of journal p).world (history (known_of journal p).world journal.log) e) ≡ false)
        → sent_by (history (known_of journal p).world journal.log) e.call (reply_to (known_of journal p).world (history (known_of journal p).world journal.log) e.client e.call) ≡ None
        → IsWhole journal' p' cs ms ls sv
    whole_steady other unserved longer unopened unclosed unbegun unsent = whole_quiet longer unopened unclosed unbegun unsent (quiet_other e.client e.call (reply_to world answered e.client e.call) other) unserved

    whole_refused : is_serving e.call ≡ false → (f : CallFault) → Made (known_of journal p) (known_of journal' p') e (Refused f) → IsWhole journal' p' cs ms ls sv
    whole_refused unserved f made =
        whole_quiet made.log (ap (opened_chain e.call) made.reply ∙ opened_refused e.call f) (λ id. ap (λ r. closes e.call r id) made.reply ∙ closes_refused e.call f id)
        (λ id. ap (λ (o : Option Base). option_map_or (λ (b : Base). is_of_chain (Some id) b.chain) o false) (ap (began_by world answered e.call) made.reply ∙ began_refused world answered e.call f))
        (ap (sent_by answered e.call) made.reply ∙ sent_refused answered e.call f)
        (subst (λ r. IsQuiet e.client e.call r) (sym made.reply) (quiet_refused e.client e.call f)) unserved

    pub whole_fails : is_serving e.call ≡ false → (f : CallFault) → Fails (known_of journal p) (known_of journal' p') e f → IsWhole journal' p' cs ms ls sv
    whole_fails unserved HistoryFull fails = whole_same fails.1
    whole_fails unserved NoMemory fails = whole_same fails
    whole_fails unserved fault fails = whole_refused unserved fault fails

    -- a call that does not open, close, begin or submit in a chain, with any answer
    pub whole_called : {X : Type 0} (good : X → Reply) (r : Result X CallFault) → is_listening e.call ≡ false → is_serving e.call ≡ false → Calls (known_of journal p) (known_of journal' p') e good r
        → ((reply : Reply) → opened_chain e.call reply ≡ None) → ((reply : Reply) (id : ℕ) → closes e.call reply id ≡ false)
        → ((reply : Reply) (id : ℕ) → option_map_or (λ (b : Base). is_of_chain (Some id) b.chain) (began_by (known_of journal p).world (history (known_of journal p).world journal.log) e.call reply) false ≡ false)
        → ((reply : Reply) → sent_by (history (known_of journal p).world journal.log) e.call reply ≡ None) → IsWhole journal' p' cs ms ls sv
    whole_called good (Ok x) other unserved made opened closed begun sent =
        let reply : Reply = reply_to world answered e.client e.call in
        whole_steady other unserved made.log (opened reply) (closed reply) (begun reply) (sent reply)
    whole_called good (Err f) other unserved fails opened closed begun sent = whole_fails unserved f fails

-- a transaction of no chain
pub begin_unchained : (world : List Domain) (answered : List Answered) (domain : ℕ) (mode : Mode) (reply : Reply) (id : ℕ) → option_map_or (λ (b : Base). is_of_chain (Some id) b.chain) (began_by world answered (Begin domain mode) reply) false ≡ false
begin_unchained w done domain mode (Begun commit on) id = refl
begin_unchained w done domain mode r id = refl

-- ---- a call that keeps a part itself

same_or_more : (old new : HubHistory) (e : Entry) (f : CallFault) → Fails old new e f → (new ≡ old) ⊎ (new ≡ more old e)
same_or_more old new e HistoryFull fails = inl fails.1
same_or_more old new e NoMemory fails = inl fails
same_or_more old new e fault fails = inr fails.log

-- the entry was added, if anything was
grown : {X : Type 0} (old new : HubHistory) (e : Entry) (good : X → Reply) (r : Result X CallFault) → Calls old new e good r → (new ≡ old) ⊎ (new ≡ more old e)
grown old new e good (Ok x) made = inr made.log
grown old new e good (Err f) fails = same_or_more old new e f fails

module _ {journal journal' : Noted} {p p' : Pipeline} {cs : Chains} {ms : Marks} {ls : Listeners} {sv : Services} (whole : IsWhole journal p cs ms ls sv) (kept : IsKept journal' p') (client : ℕ) (call : Call) (quiet : (m : ℕ) → marks call m ≡ false) where
  abbrev old_known : HubHistory
  old_known = known_of journal p

  abbrev entered : Entry
  entered = entry_of (known_of journal p) client call

  still_marked : (known_of journal' p' ≡ known_of journal p) ⊎ (known_of journal' p' ≡ more (known_of journal p) entered) → AreMarked journal'.log ms.map
  still_marked (inl same) = λ m. whole.marked m ∙ ap (λ (known : HubHistory). has_mark known.log m) (sym same)
  still_marked (inr longer) = λ m. unmarked journal.log entered ms quiet whole.marked m ∙ ap (λ (known : HubHistory). has_mark known.log m) (sym longer)

  still_listeners : is_listening call ≡ false → (known_of journal' p' ≡ known_of journal p) ⊎ (known_of journal' p' ≡ more (known_of journal p) entered) → AreListeners (known_of journal' p') ls
  still_listeners other (inl same) = subst (λ known. AreListeners known ls) (sym same) whole.listeners
  still_listeners other (inr longer) =
      subst (λ known. AreListeners known ls) (sym longer)
      (listeners_steady old_known entered ls whole.listeners (quiet_other client call (reply_to old_known.world (history old_known.world old_known.log) client call) other))

  still_served : is_serving call ≡ false → (known_of journal' p' ≡ known_of journal p) ⊎ (known_of journal' p' ≡ more (known_of journal p) entered) → AreServed (known_of journal' p') sv
  still_served other (inl same) = subst (λ known. AreServed known sv) (sym same) whole.services
  still_served other (inr longer) = subst (λ known. AreServed known sv) (sym longer) (served_steady old_known entered sv other whole.services)

  still_chains : ((reply : Reply) → opened_chain call reply ≡ None) → ((reply : Reply) (id : ℕ) → closes call reply id ≡ false)
      → ((reply : Reply) (id : ℕ) → option_map_or (λ (b : Base). is_of_chain (Some id) b.chain) (began_by (known_of journal p).world (history (known_of journal p).world journal.log) call reply) false ≡ false)
      → ((reply : Reply) → sent_by (history (known_of journal p).world journal.log) call reply ≡ None)
      → (known_of journal' p' ≡ known_of journal p) ⊎ (known_of journal' p' ≡ more (known_of journal p) entered) → AreChains (known_of journal' p') cs
  still_chains opened closed begun sent (inl same) = subst (λ known. AreChains known cs) (sym same) whole.chains
  still_chains opened closed begun sent (inr longer) =
      let reply : Reply = reply_to (known_of journal p).world (history (known_of journal p).world journal.log) client call in
      subst (λ known. AreChains known cs) (sym longer)
      (steady (known_of journal p) entered cs whole.chains cs (same_chains cs) (opened reply) (closed reply) (begun reply) (sent reply))

  -- the chains
  pub whole_chained : {X : Type 0} (cs' : Chains) (good : X → Reply) (r : Result X CallFault) → is_listening call ≡ false → is_serving call ≡ false → AreChains (known_of journal' p') cs' → Calls (known_of journal p) (known_of journal' p') entered good r → IsWhole journal' p' cs' ms ls sv
  whole_chained cs' good r other unserved are calls =
      let how = grown old_known (known_of journal' p') entered good r calls in
      record { kept = kept; chains = are; marked = still_marked how; listeners = still_listeners other how; services = still_served unserved how }

  -- the listeners
  pub whole_heard : {X : Type 0} (ls' : Listeners) (good : X → Reply) (r : Result X CallFault) → is_serving call ≡ false → AreListeners (known_of journal' p') ls' → Calls (known_of journal p) (known_of journal' p') entered good r
      → ((reply : Reply) → opened_chain call reply ≡ None) → ((reply : Reply) (id : ℕ) → closes call reply id ≡ false)
      → ((reply : Reply) (id : ℕ) → option_map_or (λ (b : Base). is_of_chain (Some id) b.chain) (began_by (known_of journal p).world (history (known_of journal p).world journal.log) call reply) false ≡ false)
      → ((reply : Reply) → sent_by (history (known_of journal p).world journal.log) call reply ≡ None) → IsWhole journal' p' cs ms ls' sv
  whole_heard ls' good r unserved are calls opened closed begun sent =
      let how = grown old_known (known_of journal' p') entered good r calls in
      record { kept = kept; chains = still_chains opened closed begun sent how; marked = still_marked how; listeners = are; services = still_served unserved how }

  -- the services
  pub whole_served : {X : Type 0} (sv' : Services) (good : X → Reply) (r : Result X CallFault) → is_serving call ≡ true → AreServed (known_of journal' p') sv' → Calls (known_of journal p) (known_of journal' p') entered good r → IsWhole journal' p' cs ms ls sv'
  whole_served sv' good r serves are calls =
      let how = grown old_known (known_of journal' p') entered good r calls in
      record {
        kept = kept;
        chains = still_chains (serving_unopened call serves) (serving_unclosed call serves) (serving_unbegun old_known.world (history old_known.world old_known.log) call serves) (serving_unsent (history old_known.world old_known.log) call serves) how;
        marked = still_marked how;
        listeners = still_listeners (serving_unheard call serves) how;
        services = are;
      }

  -- the calls of one service
  pub whole_mounted : {X : Type 0} (mounts : Register) (good : X → Reply) (r : Result X CallFault) → is_serving call ≡ true → rpc_call call ≡ None → note_call call ≡ None → AreMounted (known_of journal' p') mounts → Calls (known_of journal p) (known_of journal' p') entered good r → IsWhole journal' p' cs ms ls (record sv { mounts = mounts })
  whole_mounted mounts good r serves unrouted unnoted are calls =
      whole_served (record sv { mounts = mounts }) good r serves
      (served_by_mounts old_known (known_of journal' p') entered (grown old_known (known_of journal' p') entered good r calls) sv whole.services mounts unrouted unnoted are) calls

  pub whole_routed : {X : Type 0} (router : Routes) (good : X → Reply) (r : Result X CallFault) → is_serving call ≡ true → mount_call call ≡ None → note_call call ≡ None → AreRouted (known_of journal' p') router → Calls (known_of journal p) (known_of journal' p') entered good r → IsWhole journal' p' cs ms ls (record sv { router = router })
  whole_routed router good r serves unmounted unnoted are calls =
      whole_served (record sv { router = router }) good r serves
      (served_by_router old_known (known_of journal' p') entered (grown old_known (known_of journal' p') entered good r calls) sv whole.services router unmounted unnoted are) calls

  pub whole_noted : {X : Type 0} (notes : Boxes) (good : X → Reply) (r : Result X CallFault) → is_serving call ≡ true → mount_call call ≡ None → rpc_call call ≡ None → AreNoted (known_of journal' p') notes → Calls (known_of journal p) (known_of journal' p') entered good r → IsWhole journal' p' cs ms ls (record sv { notes = notes })
  whole_noted notes good r serves unmounted unrouted are calls =
      whole_served (record sv { notes = notes }) good r serves
      (served_by_notes old_known (known_of journal' p') entered (grown old_known (known_of journal' p') entered good r calls) sv whole.services notes unmounted unrouted are) calls

-- ---- a submission

submitted_number : (answered : List Answered) (place n : ℕ) → submitted answered place ≡ Receipt n → n ≡ length (sents answered) + 1
submitted_number answered place n =
    elim (nat_lt (pending answered) 4096) as (λ room. (if room then (if is_spent answered place then Refused TxSpent else Receipt (length (sents answered) + 1)) else Refused PipelineFull) ≡ Receipt n → n ≡ length (sents answered) + 1) [
      | false ↦ λ e. cc
      | true ↦ elim (is_spent answered place) as (λ spent. (if spent then Refused TxSpent else Receipt (length (sents answered) + 1)) ≡ Receipt n → n ≡ length (sents answered) + 1) [
        | true ↦ λ e. cc
        | false ↦ λ e. sym (ap number e)
      ]
    ]
  where
    number : Reply → ℕ
    number (Receipt k) = k
    number r = n

module _ (journal journal' : Noted) (p p' : Pipeline) (cs : Chains) (ms : Marks) (ls : Listeners) (sv : Services) (whole : IsWhole journal p cs ms ls sv) (kept : IsKept journal' p') where
  listeners_more : (e : Entry) → known_of journal' p' ≡ more (known_of journal p) e → is_listening e.call ≡ false → AreListeners (known_of journal' p') ls
  listeners_more e longer other =
      subst (λ known. AreListeners known ls) (sym longer)
      (listeners_steady (known_of journal p) e ls whole.listeners (quiet_other e.client e.call (reply_to (known_of journal p).world (history (known_of journal p).world journal.log) e.client e.call) other))

  served_more : (e : Entry) → known_of journal' p' ≡ more (known_of journal p) e → is_serving e.call ≡ false → AreServed (known_of journal' p') sv
  served_more e longer other = subst (λ known. AreServed known sv) (sym longer) (served_steady (known_of journal p) e sv other whole.services)

  -- the known with the entry
  with_entry : (e : Entry) (r : Reply) (cs' : Chains) → Made (known_of journal p) (known_of journal' p') e r → ((m : ℕ) → marks e.call m ≡ false) → is_listening e.call ≡ false → is_serving e.call ≡ false → AreChains (more (known_of journal p) e) cs' → IsWhole journal' p' cs' ms ls sv
  with_entry e r cs' made quiet other unserved are = record {
    kept = kept;
    chains = subst (λ known. AreChains known cs') (sym made.log) are;
    marked = λ m. unmarked journal.log e ms quiet whole.marked m ∙ ap (λ (known : HubHistory). has_mark known.log m) (sym made.log);
    listeners = listeners_more e made.log other;
    services = served_more e made.log unserved;
  }

  -- a submission: it is its chain's last receipt
  pub submit_whole : (client number place : ℕ) (ops : List Op) (n : ℕ) (b : Base) (cs' : Chains) → began_at (history (known_of journal p).world journal.log) place ≡ Some b
      → Made (known_of journal p) (known_of journal' p') (record { client = client; number = number; call = Submit place ops }) (Receipt n)
      → IsWithin (length cs.sent.items) b.chain → cs'.domains.items ≡ cs.domains.items → cs'.closed.items ≡ cs.closed.items → cs'.begun.items ≡ cs.begun.items → cs'.sent.items ≡ noted_with cs.sent.items b.chain n
      → IsWhole journal' p' cs' ms ls sv
  submit_whole client number place ops n b cs' began made within domains closed begun sent =
      let e : Entry = record { client = client; number = number; call = Submit place ops } in
      let w : List Domain = (known_of journal p).world in
      let answered : List Answered = history w journal.log in
      let count : n ≡ length (sents answered) + 1 = submitted_number answered place n made.reply in
      let s : Sent = record { base = b; ops = ops } in
      let sends : sent_by answered (Submit place ops) (reply_to w answered client (Submit place ops)) ≡ Some s =
      ap (sent_by answered (Submit place ops)) made.reply ∙ ap (λ (o : Option Base). Some (let t : Sent = record { base = unwrap_or o nowhere; ops = ops } in t)) began in
      with_entry e (Receipt n) cs' made (λ m. refl) refl refl
      (chains_now (known_of journal p) e cs whole.chains cs'
      (record {
        closed = ap length closed ∙ whole.chains.even.closed ∙ sym (ap length domains);
        begun = ap length begun ∙ whole.chains.even.begun ∙ sym (ap length domains);
        sent = ap length sent ∙ length-with cs.sent.items b.chain n ∙ whole.chains.even.sent ∙ sym (ap length domains);
      })
      (domains ∙ sym (append-nil cs.domains.items))
      (λ id. ap (λ xs. flag_in xs id) closed ∙ sym (or_false (flag_in cs.closed.items id)))
      (λ id. ap (λ xs. noted_in xs id) begun)
      (λ id.
      ap (λ xs. noted_in xs id) sent ∙ noted_in-with cs.sent.items b.chain n id within
      ∙ ap (λ k. option_or (if is_of_chain (Some id) b.chain then Some k else None) (noted_in cs.sent.items id)) count
      ∙ ap (λ (o : Option Sent). option_or (sent_in (length (sents answered)) id o) (noted_in cs.sent.items id)) (sym sends))
      (λ b' began'. cc))

  module _ (client number chain : ℕ) (low : 0 < chain) (high : chain ≤ length cs.closed.items) where
    abbrev here : List Domain
    here = (known_of journal p).world

    abbrev done : List Answered
    done = history (known_of journal p).world journal.log

    abbrev entry : Entry
    entry = record { client = client; number = number; call = CloseChain chain }

    close_reply : (was : Bool) → was ≡ flag_in cs.closed.items chain → reply_to here done client (CloseChain chain) ≡ refused_or (fault_if was ChainClosed) Accepted
    close_reply was is = ap (λ b. refused_or (fault_if b ChainClosed) Accepted) (sym (is ∙ whole.chains.closed chain))

    now_closed : (k : ℕ) → flag_in (set cs.closed.items (chain - 1) true) k ≡ (if nat_eq k chain then true else flag_in cs.closed.items k)
    now_closed k =
        ap (λ (o : Option Bool). unwrap_or o false) (at_chain_set cs.closed.items chain true k low high)
        ∙ elim (nat_eq k chain) as (λ b. unwrap_or (if b then Some true else at_chain cs.closed.items k) false ≡ (if b then true else flag_in cs.closed.items k)) [ true ↦ refl | false ↦ refl ]

    closed_more : (was : Bool) → was ≡ flag_in cs.closed.items chain → (k : ℕ) → (if nat_eq k chain then true else flag_in cs.closed.items k) ≡ (flag_in cs.closed.items k || closes (CloseChain chain) (refused_or (fault_if was ChainClosed) Accepted) k)
    closed_more false is k =
        elim (nat_eq k chain) as (λ b. nat_eq k chain ≡ b → (if b then true else flag_in cs.closed.items k) ≡ (flag_in cs.closed.items k || nat_eq chain k)) [
          | true ↦ λ e. let back : nat_eq chain k ≡ true = grind (arith, nat_tests) in sym (ap (λ x. flag_in cs.closed.items k || x) back ∙ or_true (flag_in cs.closed.items k))
          | false ↦ λ e. let back : nat_eq chain k ≡ false = grind (arith, nat_tests) in sym (ap (λ x. flag_in cs.closed.items k || x) back ∙ or_false (flag_in cs.closed.items k))
        ] refl
    closed_more true is k =
        elim (nat_eq k chain) as (λ b. nat_eq k chain ≡ b → (if b then true else flag_in cs.closed.items k) ≡ (flag_in cs.closed.items k || false)) [
          | true ↦ λ e. let same : k ≡ chain = grind (arith, nat_tests) in is ∙ ap (flag_in cs.closed.items) (sym same) ∙ sym (or_false (flag_in cs.closed.items k))
          | false ↦ λ e. sym (or_false (flag_in cs.closed.items k))
        ] refl

    module _ (was : Bool) (is : was ≡ flag_in cs.closed.items chain) (same_world : known_of journal' p' ≡ more (known_of journal p) (record { client = client; number = number; call = CloseChain chain })) where
      pub close_made : length journal.log < 1000000 → Made (known_of journal p) (known_of journal' p') (record { client = client; number = number; call = CloseChain chain }) (refused_or (fault_if was ChainClosed) Accepted)
      close_made room = record { room = room; log = same_world; reply = close_reply was is }

      pub close_whole : (cs' : Chains) → length journal.log < 1000000 → cs'.domains.items ≡ cs.domains.items → cs'.closed.items ≡ set cs.closed.items (chain - 1) true → cs'.begun.items ≡ cs.begun.items → cs'.sent.items ≡ cs.sent.items → IsWhole journal' p' cs' ms ls sv
      close_whole cs' room domains closed begun sent =
          with_entry entry (refused_or (fault_if was ChainClosed) Accepted) cs' (close_made room) (λ m. refl) refl refl
          (chains_now (known_of journal p) entry cs whole.chains cs'
          (record {
            closed = ap length closed ∙ length-set cs.closed.items (chain - 1) true ∙ whole.chains.even.closed ∙ sym (ap length domains);
            begun = ap length begun ∙ whole.chains.even.begun ∙ sym (ap length domains);
            sent = ap length sent ∙ whole.chains.even.sent ∙ sym (ap length domains);
          })
          (domains ∙ sym (append-nil cs.domains.items))
          (λ id.
          ap (λ xs. flag_in xs id) closed ∙ now_closed id ∙ closed_more was is id
          ∙ ap (λ r. flag_in cs.closed.items id || closes (CloseChain chain) r id) (sym (close_reply was is)))
          (λ id. ap (λ xs. noted_in xs id) begun) (λ id. ap (λ xs. noted_in xs id) sent) (λ b began'. cc))

  -- a mark
  pub mark_whole : (client number mark : ℕ) (ms' : Marks) → known_of journal' p' ≡ more (known_of journal p) (record { client = client; number = number; call = Mark mark })
      → ((m : ℕ) → is_key ms'.map m ≡ (nat_eq mark m || is_key ms.map m)) → IsWhole journal' p' cs ms' ls sv
  mark_whole client number mark ms' longer marked =
      let e : Entry = record { client = client; number = number; call = Mark mark } in
      record {
        kept = kept;
        chains = subst (λ known. AreChains known cs) (sym longer) (steady (known_of journal p) e cs whole.chains cs (same_chains cs) refl (λ id. refl) (λ id. refl) refl);
        marked = λ m.
            marked m ∙ swapped (nat_eq mark m) (is_key ms.map m) ∙ ap (λ b. b || nat_eq mark m) (whole.marked m) ∙ sym (mark-push journal.log e m)
            ∙ ap (λ (known : HubHistory). has_mark known.log m) (sym longer);
        listeners = listeners_more e longer refl;
        services = served_more e longer refl;
      }

-- marks that are the same
pub same_marks : (journal : Noted) (p : Pipeline) (cs : Chains) (ms ms' : Marks) (ls : Listeners) (sv : Services) → IsWhole journal p cs ms ls sv → ((m : ℕ) → is_key ms'.map m ≡ is_key ms.map m) → IsWhole journal p cs ms' ls sv
same_marks journal p cs ms ms' ls sv whole same = record { kept = whole.kept; chains = whole.chains; marked = λ m. same m ∙ whole.marked m; listeners = whole.listeners; services = whole.services }

-- ---- the first

pub empty_whole : (journal : Noted) (p : Pipeline) (cs : Chains) (ms : Marks) (ls : Listeners) (sv : Services) → IsKept journal p → journal.log ≡ [] → cs.domains.items ≡ [] → cs.closed.items ≡ [] → cs.begun.items ≡ [] → cs.sent.items ≡ [] → ((m : ℕ) → is_key ms.map m ≡ false) → ls.list.items ≡ [] → ls.live ≡ 0 → AreServed (record { world = (known_of journal p).world; log = [] }) sv → IsWhole journal p cs ms ls sv
empty_whole journal p cs ms ls sv kept empty domains closed begun sent unmarked_all none unheard unserved = record {
  kept = kept;
  chains = subst (λ l. AreChains (record { world = (known_of journal p).world; log = l }) cs) (sym empty) (record {
    even = record { closed = ap length closed ∙ sym (ap length domains); begun = ap length begun ∙ sym (ap length domains); sent = ap length sent ∙ sym (ap length domains) };
    domains = domains;
    closed = λ id. ap (λ xs. flag_in xs id) closed ∙ no_flag id;
    begun = λ id. ap (λ xs. noted_in xs id) begun ∙ no_note id;
    sent = λ id. ap (λ xs. noted_in xs id) sent ∙ no_note id;
    places = record { begun = λ place b is. cc; sent = λ i s is. cc };
  });
  marked = λ m. unmarked_all m ∙ ap (λ l. has_mark l m) (sym empty);
  listeners = subst (λ l. AreListeners (record { world = (known_of journal p).world; log = l }) ls) (sym empty) (listeners_empty (known_of journal p).world ls none unheard);
  services = subst (λ l. AreServed (record { world = (known_of journal p).world; log = l }) sv) (sym empty) unserved;
}
  where
    no_flag : (id : ℕ) → flag_in [] id ≡ false
    no_flag zero = refl
    no_flag (suc i) = refl

    no_note : (id : ℕ) → noted_in [] id ≡ None
    no_note zero = refl
    no_note (suc i) = refl

-- ---- calls that decide nothing

module _ (journal journal' : Noted) (p : Pipeline) (cs : Chains) (ms : Marks) (ls : Listeners) (sv : Services) (whole : IsWhole journal p cs ms ls sv) (client : ℕ) (call : Call) (log : journal'.log ≡ jotted journal.log client call) where
  pub longer_now : known_of journal' p ≡ more (known_of journal p) (record { client = client; number = entries_of journal.log client; call = call })
  longer_now = λ i. let known : HubHistory = record { world = (known_of journal p).world; log = log i } in known

  -- with the view of a hub that it had
  pub made_over : (known : HubHistory) (r : Reply) → known_of journal p ≡ known → length journal.log < 1000000 → reply_to (known_of journal p).world (history (known_of journal p).world journal.log) client call ≡ r
      → Made known (known_of journal' p) (entry_of known client call) r
  made_over known r same room reply = subst (λ k. Made k (known_of journal' p) (entry_of k client call) r) same (made_now journal journal' p whole.kept client call log r room reply)

-- the answer to a look for a mark
pub seen_now : (journal : Noted) (p : Pipeline) (cs : Chains) (ms : Marks) (ls : Listeners) (sv : Services) (client mark : ℕ) (b : Bool) → IsWhole journal p cs ms ls sv → is_key ms.map mark ≡ b → reply_to (known_of journal p).world (history (known_of journal p).world journal.log) client (After mark) ≡ (if b then Found else Late)
seen_now journal p cs ms ls sv client mark b whole is =
    ap (λ x. if x then Found else Late) (marked (known_of journal p).world journal.log mark ∙ sym (whole.marked mark) ∙ is)

-- the chain of a transaction is one of those that are kept
module _ (journal : Noted) (p : Pipeline) (cs : Chains) (ms : Marks) (ls : Listeners) (sv : Services) (whole : IsWhole journal p cs ms ls sv) (known : HubHistory) (view : known_of journal p ≡ known) (begun : Token) (mode : Mode) (base : Pair) (token : IsBegun known begun mode base) where
  pub token_began : began_at (history (known_of journal p).world journal.log) begun.place ≡ Some (record { domain = begun.domain; commit = begun.base_commit; chain = begun.chain; trees = rows_in base })
  token_began = (subst (λ k. IsBegun k begun mode base) (sym view) token).began

  member_domains : IsWithin (length cs.domains.items) begun.chain
  member_domains = member_within (known_of journal p) cs whole.chains begun.place (record { domain = begun.domain; commit = begun.base_commit; chain = begun.chain; trees = rows_in base }) token_began

  pub member_failures : IsWithin (length p.failures.items) begun.chain
  member_failures = λ id is. (
    (member_domains id is).0,
    omega (arith, (member_domains id is).1, ap length whole.chains.domains, whole.kept.current.chains),
  )

  pub member_sent : IsWithin (length cs.sent.items) begun.chain
  member_sent = λ id is. ((member_domains id is).0, omega (arith, (member_domains id is).1, whole.chains.even.sent))

-- chains that are the same
pub chains_whole : (journal journal' : Noted) (p : Pipeline) (cs cs' : Chains) (ms : Marks) (ls : Listeners) (sv : Services) → IsWhole journal p cs ms ls sv → journal' ≡ journal → AreSame cs cs' → IsWhole journal' p cs' ms ls sv
chains_whole journal journal' p cs cs' ms ls sv whole as_was same =
    subst (λ j. IsWhole j p cs' ms ls sv) (sym as_was) (record { kept = whole.kept; chains = chains_as (known_of journal p) cs cs' same whole.chains; marked = whole.marked; listeners = whole.listeners; services = whole.services })
