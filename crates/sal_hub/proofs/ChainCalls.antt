-- The calls of chains: what is kept stays the log's, and the answer is the log's.
use Rattle.std.proofs.Common.{◌≡◌, ℕ, ◌+◌, ◌-◌, ◌<◌, ◌≤◌, Bool, true, false, not, List, [], ◌∷◌, ◌++◌, length, map, get_or, Option, None, Some, refl, ap, sym, ◌∙◌, subst, arith, append-nil, length-append, if◌then◌else◌, nat_lt}
use Rattle.std.specs.Prelude.{slice_get, option_and_then, unwrap_or}
use Rattle.std.specs.Option.{option_map, option_map_or, option_or, option_to_list}
use Rattle.std.proofs.lemmas.Bool.Decides.{nat_tests}
use Rattle.std.proofs.lemmas.Option.{same_Some, slice_get_within}
use Rattle.sal_types.specs.declared.value.Store.{Store}
use Rattle.sal_rows.specs.declared.outcome.CallFault.{CallFault}
use Rattle.sal_rows.specs.declared.outcome.CallFault.TheVariants.{ChainClosed, ChainFailed, NoDomain, PreviousOpen}
use Rattle.sal_rows.specs.declared.outcome.Mode.{Mode}
use Rattle.sal_rows.specs.Apply.{apply_ops}
use Rattle.sal_rows.specs.Spans.{is_of_chain}
use Rattle.sal_tree.specs.declared.commit.Pair.{Pair}
use Rattle.sal_graft.specs.Kept.{AreKept, rows_in as kept_rows}
use Rattle.sal_tx.specs.declared.tx.Submission.{Submission}
use Rattle.sal_tx.specs.declared.tx.Tx.{Tx}
use Rattle.sal_tx.specs.Views.{rows_in}
use Rattle.sal_commit.specs.declared.domain.Domain.{Domain}
use Rattle.sal_history.specs.declared.call.Call.TheVariants.{ChainBegin, OpenChain}
use Rattle.sal_history.specs.declared.call.Entry.{Entry}
use Rattle.sal_history.specs.declared.reply.Reply.TheVariants.{Begun, Chain as Opened, Refused}
use Rattle.sal_history.specs.World as world
use Rattle.sal_history.specs.History.{Answered, base_on, began_by, begins_in, chain_domains, chain_refusal, chained_base, domain_of, entries_of, failed_by, fault_if, has_open, is_closed, is_live, last_begun, newest_base, opened_chain, refused_or, reply_to, sents, stands_on}
use Rattle.sal_history.specs.Numbered.{numbered}
use Rattle.sal_history.specs.Submissions.{Base, Sent, failing, is_in, last_receipt}
use Rattle.sal_history.specs.Versions.{schema_version}
use Rattle.sal_history.proofs.Numbered.{numbered-at, numbered-is}
use Rattle.sal_hub.specs.declared.chain.Chain.{Chain}
use Rattle.sal_hub.specs.declared.chains.Chains.{Chains}
use Rattle.sal_hub.specs.declared.pipeline.Pipeline.{Pipeline}
use Rattle.sal_hub.specs.declared.start.Footing.{Footing}
use Rattle.sal_hub.specs.Answers.{Fails, Made}
use Rattle.sal_hub.specs.Chains.{Adds, AreChains, IsFooting, IsInPlace, is_open, pending_of}
use Rattle.sal_hub.specs.Current.{IsCurrent, IsKept, answers, known_of, number_of}
use Rattle.sal_hub.specs.Failures.{IsWithin, flag_in, noted_in, noted_with}
use Rattle.sal_hub.specs.Journals.{Noted, jotted, mark_at}
use Rattle.sal_hub.specs.HubHistory.{HubHistory, more}
use Rattle.sal_hub.specs.PipelineView.{AllKept, IsSound, PipelineView, is_live_in, queue_of, sent_of, shown, world_in}
use Rattle.sal_hub.specs.Starts.{Starts}
use Rattle.sal_hub.specs.Begins.{on_by}
use Rattle.sal_hub.specs.Tokens.{IsChain, IsFresh, IsToken, base_of, begun_of, mode_of}
use Rattle.sal_hub.proofs.Beginning.{made_now, newest_commit, newest_trees, quiet_kept, token_now}
use Rattle.sal_hub.proofs.Chained.{adds_even, chains_now, steady}
use Rattle.sal_hub.proofs.Deciding.{versions-same}
use Rattle.sal_hub.proofs.Histories.{now_of}
use Rattle.sal_hub.proofs.Keeping.{length-submissions, or_false, pushed, still_live, unsent}
use Rattle.sal_hub.proofs.Listed.{slice_get_seam}
use Rattle.sal_hub.proofs.Members.{last_from-passes, last_from-within}
use Rattle.sal_hub.proofs.Noted.{flag_at, flag_in-push, length-with, noted_at, noted_in-push, noted_in-with}
use Rattle.sal_hub.proofs.Serving.{kept_at, live_within, shown_at}
use Rattle.sal_hub.proofs.Settling.{kept_sent}
use Rattle.sal_hub.proofs.Standing.{allowed_live}
use Rattle.sal_hub.proofs.Starting.{same_rows}
use Rattle.sal_hub.proofs.Versioned.{schema-present, version-present}

-- the known with the entry
known_is : (journal journal' : Noted) (p p' : Pipeline) (e : Entry) → journal'.log ≡ journal.log ++ e ∷ [] → world_in (queue_of p').domains ≡ world_in (queue_of p).domains → more (known_of journal p) e ≡ known_of journal' p'
known_is journal journal' p p' e log same = λ i. let known : HubHistory = record { world = sym same i; log = sym log i } in known

-- ---- open

module _ (journal journal' : Noted) (p : Pipeline) (is : IsKept journal p) (client domain : ℕ) (log : journal'.log ≡ jotted journal.log client (OpenChain domain)) where
  abbrev w : List world.Domain
  w = world_in (queue_of p).domains

  abbrev answered : List Answered
  answered = answers journal.log (queue_of p)

  abbrev entry : Entry
  entry = record { client = client; number = entries_of journal.log client; call = OpenChain domain }

  module _ (dead : is_live_in (queue_of p).domains domain ≡ false) where
    pub unopened_reply : reply_to (world_in (queue_of p).domains) (answers journal.log (queue_of p)) client (OpenChain domain) ≡ Refused (NoDomain domain)
    unopened_reply = ap (λ b. if b then Opened (length (chain_domains answered) + 1) else Refused (NoDomain domain)) (sym (is.current.live domain) ∙ dead)

    unopened : opened_chain (OpenChain domain) (reply_to w answered client (OpenChain domain)) ≡ None
    unopened = ap (opened_chain (OpenChain domain)) unopened_reply

    pub unopened_kept : ((k : ℕ) → mark_at journal'.marks k ≡ mark_at journal.marks k) → IsKept journal' p
    unopened_kept marks = quiet_kept journal journal' p is client (OpenChain domain) log refl refl refl refl (λ k. refl) unopened marks

    pub unopened_chains : (cs : Chains) → AreChains (known_of journal p) cs → AreChains (known_of journal' p) cs
    unopened_chains cs are =
        subst (λ known. AreChains known cs) (known_is journal journal' p p entry log refl)
        (steady (known_of journal p) entry cs are cs (record { domains = refl; closed = refl; begun = refl; sent = refl }) unopened (λ id. refl) (λ id. refl) refl)

  module _ (p' : Pipeline) (live : is_live_in (queue_of p).domains domain ≡ true) (kept : p'.domains ≡ p.domains) (as_gone : p'.gone ≡ p.gone) (same : p'.waiting ≡ p.waiting) (undecided : p'.outcomes ≡ p.outcomes) (failures : p'.failures.items ≡ p.failures.items ++ None ∷ []) where
    opened_reply : reply_to w answered client (OpenChain domain) ≡ Opened (length (chain_domains answered) + 1)
    opened_reply = ap (λ b. if b then Opened (length (chain_domains answered) + 1) else Refused (NoDomain domain)) (sym (is.current.live domain) ∙ live)

    opened : opened_chain (OpenChain domain) (reply_to w answered client (OpenChain domain)) ≡ Some domain
    opened = ap (opened_chain (OpenChain domain)) opened_reply

    abbrev queue' : PipelineView
    queue' = record (queue_of p) { failures = (queue_of p).failures ++ None ∷ [] }

    queue_is : queue' ≡ queue_of p'
    queue_is = λ i. record { domains = map shown (sym kept i).items; gone = sym as_gone i; waiting = (sym same i).items; outcomes = (sym undecided i).items; failures = sym failures i }

    wider : (n : ℕ) (chain : Option ℕ) → IsWithin n chain → IsWithin (n + 1) chain
    wider n chain within id at = ((within id at).0, omega (arith, (within id at).1))

    longer : length queue'.failures ≡ length (queue_of p).failures + 1
    longer = length-append (queue_of p).failures (None ∷ [])

    sound_now : IsSound (sents answered) queue'
    sound_now = record {
      some = is.current.sound.some;
      within = is.current.sound.within;
      behind = is.current.sound.behind;
      domains = λ n d at. let had = is.current.sound.domains n d at in record { number = had.number; commits = had.commits; chains = had.chains; receipts = had.receipts };
      waiting = is.current.sound.waiting;
      standing = λ i s at. let had = is.current.sound.standing i s at in record { domain = had.domain; base = had.base; chain = subst (λ n. IsWithin n s.chain) (sym longer) (wider (length (queue_of p).failures) s.chain had.chain); seen = had.seen };
      numbers = is.current.sound.numbers;
      failures = λ k. noted_in-push (queue_of p).failures k ∙ is.current.sound.failures k;
    }

    pub opened_kept : ((k : ℕ) → mark_at journal'.marks k ≡ mark_at journal.marks k) → IsKept journal' p'
    opened_kept marks = record {
      kept = subst (λ ds. AllKept ds) (λ i. (sym kept i).items) is.kept;
      current = subst (λ l. IsCurrent l journal'.marks (queue_of p')) (sym log) (subst (IsCurrent (journal.log ++ entry ∷ []) journal'.marks) queue_is
          (pushed journal.log journal.marks (queue_of p) is.current entry refl queue' journal'.marks (unsent journal.log journal.marks (queue_of p) is.current entry queue' refl sound_now) refl (versions-same (queue_of p).domains) (sym (append-nil (queue_of p).outcomes))
          (λ k. marks k ∙ sym (or_false (mark_at journal.marks k))) (longer ∙ ap (λ (o : Option ℕ). length (queue_of p).failures + length (option_to_list o)) (sym opened))
          (still_live journal.log journal.marks (queue_of p) is.current entry queue' refl (λ n. refl))));
      let_go = as_gone ∙ is.let_go ∙ (λ i. length (sym undecided i).items);
    }

    same_world : world_in (queue_of p').domains ≡ w
    same_world = λ i. world_in (map shown (kept i).items)

    module _ (cs cs' : Chains) (are : AreChains (known_of journal p) cs) (adds : Adds cs domain cs') where
      pub opened_chains : AreChains (known_of journal' p') cs'
      opened_chains =
          subst (λ known. AreChains known cs') (known_is journal journal' p p' entry log same_world)
          (chains_now (known_of journal p) entry cs are cs' (adds_even cs cs' domain adds are.even)
          (adds.domains ∙ ap (λ (o : Option ℕ). cs.domains.items ++ option_to_list o) (sym opened))
          (λ id. ap (λ xs. flag_in xs id) adds.closed ∙ flag_in-push cs.closed.items id ∙ sym (or_false (flag_in cs.closed.items id)))
          (λ id. ap (λ xs. noted_in xs id) adds.begun ∙ noted_in-push cs.begun.items id)
          (λ id. ap (λ xs. noted_in xs id) adds.sent ∙ noted_in-push cs.sent.items id)
          (λ b began. cc))

      id_is : length cs'.domains.items ≡ length (chain_domains answered) + 1
      id_is = ap length adds.domains ∙ length-append cs.domains.items (domain ∷ []) ∙ ap (λ (ds : List ℕ). length ds + 1) are.domains

      pub opened_made : length journal.log < 1000000 → Made (known_of journal p) (known_of journal' p') (record { client = client; number = entries_of journal.log client; call = OpenChain domain }) (Opened (length cs'.domains.items))
      opened_made room = record {
        room = room;
        log = λ i. record { world = same_world i; log = log i };
        reply = opened_reply ∙ ap Opened (sym id_is);
      }

      pub opened_given : (chain : Chain) → chain.id ≡ length cs'.domains.items → chain.domain ≡ domain → IsChain (known_of journal' p') chain
      opened_given chain id of_domain =
          let long : chain.id ≡ length cs.domains.items + 1 = id ∙ ap length adds.domains ∙ length-append cs.domains.items (domain ∷ []) in
          let place : chain.id - 1 ≡ length cs.domains.items = omega (arith, long) in (
            omega (arith, long),
            (λ i. slice_get (sym opened_chains.domains i) (place i)) ∙ ap (λ ds. slice_get ds (length cs.domains.items)) adds.domains
                ∙ slice_get_seam cs.domains.items domain [] ∙ ap Some (sym of_domain),
          )

-- ---- a chain that was opened

module _ (journal : Noted) (p : Pipeline) (is : IsKept journal p) (cs : Chains) (are : AreChains (known_of journal p) cs) (chain : Chain) (token : IsChain (known_of journal p) chain) where
  abbrev here : List world.Domain
  here = world_in (queue_of p).domains

  abbrev done : List Answered
  done = answers journal.log (queue_of p)

  pub id_within : chain.id ≤ length cs.domains.items
  id_within =
      let low : chain.id - 1 < length (chain_domains done) = slice_get_within (chain_domains done) (chain.id - 1) chain.domain token.1 in
      omega (arith, low, token.0, ap length are.domains)

  pub closed_is : (x : Bool) → x ≡ get_or cs.closed.items (chain.id - 1) x → x ≡ is_closed (answers journal.log (queue_of p)) chain.id
  closed_is x at = sym (flag_at cs.closed.items chain.id x token.0 (omega (arith, id_within, are.even.closed)) at) ∙ are.closed chain.id

  pub failed_is : (x : Option ℕ) → x ≡ get_or p.failures.items (chain.id - 1) x → x ≡ failed_by (answers journal.log (queue_of p)) chain.id
  failed_is x at =
      sym (noted_at p.failures.items chain.id x token.0 (omega (arith, id_within, ap length are.domains, is.current.chains)) at)
      ∙ is.current.sound.failures chain.id ∙ (λ i. failing (Some chain.id) (sents done) (is.current.outcomes i))

  pub begun_is : (x : Option ℕ) → x ≡ get_or cs.begun.items (chain.id - 1) x → x ≡ last_begun (answers journal.log (queue_of p)) chain.id
  begun_is x at = sym (noted_at cs.begun.items chain.id x token.0 (omega (arith, id_within, are.even.begun)) at) ∙ are.begun chain.id

  pub open_is : (x : Option ℕ) → x ≡ get_or cs.begun.items (chain.id - 1) x → is_open journal.marks x ≡ has_open (answers journal.log (queue_of p)) chain.id
  open_is x at = λ i. option_map_or (λ place. not (is.current.marks place i)) (begun_is x at i) false

  pub sent_is : (x : Option ℕ) → x ≡ get_or cs.sent.items (chain.id - 1) x → x ≡ last_receipt (sents (answers journal.log (queue_of p))) (Some chain.id)
  sent_is x at = sym (noted_at cs.sent.items chain.id x token.0 (omega (arith, id_within, are.even.sent)) at) ∙ are.sent chain.id

  pub sent_within : (x : Option ℕ) → x ≡ get_or cs.sent.items (chain.id - 1) x → IsWithin (p.gone + length p.waiting.items) x
  sent_within x at = λ n some.
      let h = last_from-within 1 (is_in (Some chain.id)) (sents done) n (sym (sent_is x at) ∙ some) in
      let long : length (sents done) ≡ p.gone + length p.waiting.items = sym (length-submissions journal.log journal.marks (queue_of p) is.current) in
      (omega (arith, h.0), omega (arith, h.1, long))

  pub domain_is : domain_of (answers journal.log (queue_of p)) chain.id ≡ chain.domain
  domain_is = ap (λ (o : Option ℕ). unwrap_or o 0) (numbered-at (chain_domains done) chain.id chain.domain token.0 token.1)

  pub refused_by : (closed : Bool) (failed : Option ℕ) (waits : Bool) (live : Bool) → closed ≡ is_closed (answers journal.log (queue_of p)) chain.id → failed ≡ failed_by (answers journal.log (queue_of p)) chain.id
      → waits ≡ has_open (answers journal.log (queue_of p)) chain.id → live ≡ is_live_in (queue_of p).domains chain.domain
      → option_or (fault_if closed ChainClosed) (option_or (option_map ChainFailed failed) (option_or (fault_if waits PreviousOpen) (fault_if (not live) (NoDomain chain.domain)))) ≡ chain_refusal (world_in (queue_of p).domains) (answers journal.log (queue_of p)) chain.id
  refused_by closed failed waits live a b c d =
      let e : live ≡ is_live here done (domain_of done chain.id) = d ∙ is.current.live chain.domain ∙ ap (is_live here done) (sym domain_is) in
      λ i. option_or (fault_if (a i) ChainClosed) (option_or (option_map ChainFailed (b i)) (option_or (fault_if (c i) PreviousOpen) (fault_if (not (e i)) (NoDomain (sym domain_is i)))))

-- ---- the next transaction of a chain

of_chain : (id : ℕ) (chain : Option ℕ) → is_of_chain (Some id) chain ≡ true → chain ≡ Some id
of_chain id None e = cc
of_chain id (Some k) e = let same : k ≡ id = grind (arith, nat_tests) in ap Some same

module _ (journal : Noted) (p : Pipeline) (is : IsKept journal p) (cs : Chains) (are : AreChains (known_of journal p) cs) (chain : Chain) (token : IsChain (known_of journal p) chain) (allowed : chain_refusal (world_in (queue_of p).domains) (answers journal.log (queue_of p)) chain.id ≡ None) where
  live_now : is_live_in (queue_of p).domains chain.domain ≡ true
  live_now =
      is.current.live chain.domain ∙ ap (is_live (world_in (queue_of p).domains) (answers journal.log (queue_of p))) (sym (domain_is journal p is cs are chain token))
      ∙ allowed_live (world_in (queue_of p).domains) (answers journal.log (queue_of p)) chain.id allowed

  pub domain_within : chain.domain < length p.domains.items
  domain_within = live_within journal p is chain.domain live_now

  pub domain_at : (d : Domain) → d ≡ get_or p.domains.items chain.domain d → slice_get (map shown p.domains.items) chain.domain ≡ Some (shown d)
  domain_at d at = shown_at p.domains.items chain.domain d domain_within at

  pub domain_kept : (d : Domain) → d ≡ get_or p.domains.items chain.domain d → AreKept d.commits.items
  domain_kept d at = kept_at p.domains.items chain.domain d is.kept domain_within at

module _ (journal : Noted) (p : Pipeline) (is : IsKept journal p) (cs : Chains) (are : AreChains (known_of journal p) cs) (chain : Chain) (token : IsChain (known_of journal p) chain) (allowed : chain_refusal (world_in (queue_of p).domains) (answers journal.log (queue_of p)) chain.id ≡ None)
    (d : Domain) (at : slice_get (map shown p.domains.items) chain.domain ≡ Some (shown d)) (sent : Option ℕ) (sent_at : sent ≡ get_or cs.sent.items (chain.id - 1) sent) (footing : Footing) (stands : IsFooting (pending_of (length p.outcomes.items) sent) p d footing)
    (mode : Mode) (tx : Tx) (starts : Starts d footing (Some chain.id) mode (length journal.log) tx) (client : ℕ) where
  abbrev there : List world.Domain
  there = world_in (queue_of p).domains

  abbrev so_far : List Answered
  so_far = answers journal.log (queue_of p)

  abbrev begun_base : Base
  begun_base = record { domain = (begun_of tx).domain; commit = (begun_of tx).base_commit; chain = (begun_of tx).chain; trees = rows_in (base_of tx) }

  number : (begun_of tx).domain ≡ chain.domain
  number = starts.domain ∙ (is.current.sound.domains chain.domain (shown d) at).number

  trees : (s : Store) → rows_in (base_of tx) s ≡ kept_rows footing.trees s
  trees s = ap (λ (x : Pair). rows_in x s) starts.base ∙ same_rows footing.trees s

  stands_is : pending_of (length p.outcomes.items) sent ≡ stands_on so_far chain.id
  stands_is = λ i. option_and_then (λ n. if nat_lt (length (is.current.outcomes i)) n then Some n else None) (sent_is journal p is cs are chain token sent sent_at i)

  on_footing : (o : Option ℕ) → IsFooting o p d footing → footing.on ≡ o
  on_footing None newest = newest.alone
  on_footing (Some n) on = on.2.pending

  -- the chain's last submission is in its domain
  last_domain : (n : ℕ) (sub : Submission) → sent ≡ Some n → slice_get (sents so_far) (n - 1) ≡ Some (sent_of sub) → sub.domain ≡ chain.domain
  last_domain n sub some here =
      let (s, there, mine) = last_from-passes 1 (is_in (Some chain.id)) (sents so_far) n (sym (sent_is journal p is cs are chain token sent sent_at) ∙ some) in
      let same : s ≡ sent_of sub = same_Some s (sent_of sub) (sym there ∙ here) in
      let own : slice_get (chain_domains so_far) (chain.id - 1) ≡ Some s.base.domain = numbered-is (chain_domains so_far) chain.id s.base.domain (are.places.sent (n - 1) s there chain.id (of_chain chain.id s.base.chain mine)) in
      same_Some sub.domain chain.domain (ap (λ (x : Sent). Some x.base.domain) (sym same) ∙ sym own ∙ token.1)

  some_pending : (o : Option ℕ) (n : ℕ) → pending_of (length p.outcomes.items) o ≡ Some n → o ≡ Some n
  some_pending None n e = cc
  some_pending (Some k) n e =
      elim (nat_lt (length p.outcomes.items) k) as (λ b. (if b then Some k else None) ≡ Some n → Some k ≡ Some n) [ true ↦ λ same. same | false ↦ λ none. cc ] e

  late_pending : (o : Option ℕ) (n : ℕ) → pending_of (length p.outcomes.items) o ≡ Some n → length p.outcomes.items < n
  late_pending None n e = cc
  late_pending (Some k) n e =
      elim (nat_lt (length p.outcomes.items) k) as (λ b. nat_lt (length p.outcomes.items) k ≡ b → (if b then Some k else None) ≡ Some n → length p.outcomes.items < n) [
        | true ↦ λ is_late same. (let late : length p.outcomes.items < k = grind (arith, nat_tests, is_late) in omega (arith, late, same_Some k n same))
        | false ↦ λ is_late none. cc
      ] refl e

  -- the pending submission, as the log has it
  last_sent : (n : ℕ) (sub : Submission) → length p.outcomes.items < n → slice_get p.waiting.items (n - 1 - p.gone) ≡ Some sub → slice_get (sents so_far) (n - 1) ≡ Some (sent_of sub)
  last_sent n sub late at =
      let place : p.gone + (n - 1 - p.gone) ≡ n - 1 = omega (arith, late, is.current.sound.behind) in
      ap (slice_get (sents so_far)) (sym place) ∙ kept_sent journal p is (n - 1 - p.gone) sub at

  base_footing : (o : Option ℕ) → ((n : ℕ) → o ≡ Some n → sent ≡ Some n) → ((n : ℕ) → o ≡ Some n → length p.outcomes.items < n) → IsFooting o p d footing → base_on there so_far chain.id (option_and_then (λ n. numbered (sents so_far) n) o) ≡ begun_base
  base_footing None last late newest =
      let domain : domain_of so_far chain.id ≡ chain.domain = domain_is journal p is cs are chain token in
      ap (λ n. newest_base there so_far n (Some chain.id)) domain
      ∙ (λ i. let b : Base = record {
        domain = sym number i;
        commit = sym (starts.commit ∙ newest_commit journal p is chain.domain d at footing newest) i;
        chain = sym starts.chain i;
        trees = λ s. sym (trees s ∙ newest_trees journal p is chain.domain d at footing newest s) i;
      } in b)
  base_footing (Some n) last late on =
      let sub : Submission = on.0 in
      let had = is.current.sound.standing (n - 1 - p.gone) sub on.1 in
      let here : slice_get (sents so_far) (n - 1) ≡ Some (sent_of sub) = last_sent n sub (late n refl) on.1 in
      let low : 0 < n = omega (arith, late n refl) in
      ap (base_on there so_far chain.id) (numbered-at (sents so_far) n (sent_of sub) low here)
      ∙ (λ i. let b : Base = record {
        domain = (last_domain n sub (last n refl) here ∙ sym number) i;
        commit = sym (starts.commit ∙ on.2.commit) i;
        chain = sym starts.chain i;
        trees = λ s. (ap (λ rows. apply_ops rows s sub.changes) (sym (same_rows sub.base s)) ∙ sym (on.2.trees s) ∙ same_rows footing.trees s ∙ sym (trees s)) i;
      } in b)

  base_is : chained_base there so_far chain.id ≡ begun_base
  base_is = ap (λ (o : Option ℕ). base_on there so_far chain.id (option_and_then (λ n. numbered (sents so_far) n) o)) (sym stands_is) ∙ base_footing (pending_of (length p.outcomes.items) sent) (some_pending sent) (late_pending sent) stands

  on_is : (begun_of tx).on ≡ stands_on so_far chain.id
  on_is = starts.on ∙ on_footing (pending_of (length p.outcomes.items) sent) stands ∙ stands_is

  the_reply : reply_to there so_far client (ChainBegin chain.id mode) ≡ Begun (chained_base there so_far chain.id).commit (stands_on so_far chain.id)
  the_reply = ap (λ (o : Option CallFault). refused_or o (Begun (chained_base there so_far chain.id).commit (stands_on so_far chain.id))) allowed

  pub next_reply : reply_to (world_in (queue_of p).domains) (answers journal.log (queue_of p)) client (ChainBegin chain.id mode) ≡ Begun (begun_of tx).base_commit (begun_of tx).on
  next_reply = the_reply ∙ (λ i. Begun (base_is i).commit (sym on_is i))

  began_is : began_by there so_far (ChainBegin chain.id mode) (reply_to there so_far client (ChainBegin chain.id mode)) ≡ Some begun_base
  began_is = ap (began_by there so_far (ChainBegin chain.id mode)) the_reply ∙ ap Some base_is

  -- it is in the domain of the chain
  begun_in_place : IsInPlace so_far begun_base
  begun_in_place id of_chain =
      let same : chain.id ≡ id = same_Some chain.id id (sym starts.chain ∙ of_chain) in
      ap (λ n. numbered (chain_domains so_far) n) (sym same) ∙ numbered-at (chain_domains so_far) chain.id chain.domain token.0 token.1 ∙ ap Some (sym number)

  module _ (journal' : Noted) (log : journal'.log ≡ jotted journal.log client (ChainBegin chain.id mode)) where
    abbrev the_entry : Entry
    the_entry = record { client = client; number = entries_of journal.log client; call = ChainBegin chain.id mode }

    pub next_kept : ((k : ℕ) → mark_at journal'.marks k ≡ mark_at journal.marks k) → IsKept journal' p
    next_kept marks = quiet_kept journal journal' p is client (ChainBegin chain.id mode) log refl refl refl refl (λ k. refl) refl marks

    pub next_token : IsToken (known_of journal' p) tx
    next_token =
        token_now journal journal' p is client (ChainBegin chain.id mode) log (begun_of tx) (mode_of tx) (base_of tx) starts.place began_is
        (starts.schema ∙ schema-present journal p is chain.domain d at ∙ (λ i. world.table_of there (sym starts.version i) (sym number i))) (starts.version ∙ version-present journal p is chain.domain d at ∙ ap (number_of (schema_version so_far)) (sym number))
        (ap Some (sym starts.mode)) (ap on_by next_reply)

    pub next_chains : (cs' : Chains) → cs'.domains.items ≡ cs.domains.items → cs'.closed.items ≡ cs.closed.items → cs'.begun.items ≡ noted_with cs.begun.items (Some chain.id) (length journal.log) → cs'.sent.items ≡ cs.sent.items → AreChains (known_of journal' p) cs'
    next_chains cs' domains closed begun sents_same =
        let within : IsWithin (length cs.begun.items) (Some chain.id) = λ id same. (
          subst (λ n. 0 < n) (same_Some chain.id id same) token.0,
          subst (λ n. n ≤ length cs.begun.items) (same_Some chain.id id same) (omega (arith, id_within journal p is cs are chain token, are.even.begun)),
        ) in
        let member : (id : ℕ) → begins_in id (now_of there so_far the_entry) ≡ is_of_chain (Some id) (Some chain.id) = λ id.
        (λ i. option_map_or (λ (b : Base). is_of_chain (Some id) b.chain) (began_is i) false) ∙ ap (is_of_chain (Some id)) starts.chain in
        subst (λ known. AreChains known cs') (known_is journal journal' p p the_entry log refl)
        (chains_now (known_of journal p) the_entry cs are cs'
        (record {
          closed = ap length closed ∙ are.even.closed ∙ sym (ap length domains);
          begun = ap length begun ∙ length-with cs.begun.items (Some chain.id) (length journal.log) ∙ are.even.begun ∙ sym (ap length domains);
          sent = ap length sents_same ∙ are.even.sent ∙ sym (ap length domains);
        })
        (domains ∙ sym (append-nil cs.domains.items))
        (λ id. ap (λ xs. flag_in xs id) closed ∙ sym (or_false (flag_in cs.closed.items id)))
        (λ id.
        ap (λ xs. noted_in xs id) begun ∙ noted_in-with cs.begun.items (Some chain.id) (length journal.log) id within
        ∙ ap (λ b. option_or (if b then Some (length journal.log) else None) (noted_in cs.begun.items id)) (sym (member id)))
        (λ id. ap (λ xs. noted_in xs id) sents_same)
        (λ b began. subst (IsInPlace so_far) (same_Some begun_base b (sym began_is ∙ began)) begun_in_place))

    pub next_fresh : IsFresh (known_of journal p) chain.domain (Some chain.id) mode tx
    next_fresh = record { place = starts.place; domain = number; chain = starts.chain; mode = starts.mode; ops = starts.ops }

-- ---- a chain that begins no transaction

module _ (old new : HubHistory) (e : Entry) where
  fails_of : (closed : Bool) (failed : Option ℕ) (waits dead : Bool) (n : ℕ) (f : CallFault) → option_or (fault_if closed ChainClosed) (option_or (option_map ChainFailed failed) (option_or (fault_if waits PreviousOpen) (fault_if dead (NoDomain n)))) ≡ Some f
      → Made old new e (Refused f) → Fails old new e f
  fails_of true failed waits dead n f is made = let same : ChainClosed ≡ f = same_Some ChainClosed f is in subst (Fails old new e) same (subst (λ g. Made old new e (Refused g)) (sym same) made)
  fails_of false (Some r) waits dead n f is made = let same : ChainFailed r ≡ f = same_Some (ChainFailed r) f is in subst (Fails old new e) same (subst (λ g. Made old new e (Refused g)) (sym same) made)
  fails_of false None true dead n f is made = let same : PreviousOpen ≡ f = same_Some PreviousOpen f is in subst (Fails old new e) same (subst (λ g. Made old new e (Refused g)) (sym same) made)
  fails_of false None false true n f is made = let same : NoDomain n ≡ f = same_Some (NoDomain n) f is in subst (Fails old new e) same (subst (λ g. Made old new e (Refused g)) (sym same) made)
  fails_of false None false false n f is made = cc

module _ (journal journal' : Noted) (p : Pipeline) (is : IsKept journal p) (client id : ℕ) (mode : Mode) (log : journal'.log ≡ jotted journal.log client (ChainBegin id mode)) (f : CallFault) (refused : chain_refusal (world_in (queue_of p).domains) (answers journal.log (queue_of p)) id ≡ Some f) where
  abbrev earlier : List Answered
  earlier = answers journal.log (queue_of p)

  abbrev refused_entry : Entry
  refused_entry = record { client = client; number = entries_of journal.log client; call = ChainBegin id mode }

  refused_reply : reply_to (world_in (queue_of p).domains) earlier client (ChainBegin id mode) ≡ Refused f
  refused_reply = ap (λ (o : Option CallFault). refused_or o (Begun (chained_base (world_in (queue_of p).domains) earlier id).commit (stands_on earlier id))) refused

  pub refused_kept : ((k : ℕ) → mark_at journal'.marks k ≡ mark_at journal.marks k) → IsKept journal' p
  refused_kept marks = quiet_kept journal journal' p is client (ChainBegin id mode) log refl refl refl refl (λ k. refl) refl marks

  pub refused_chains : (cs : Chains) → AreChains (known_of journal p) cs → AreChains (known_of journal' p) cs
  refused_chains cs are =
      subst (λ known. AreChains known cs) (known_is journal journal' p p refused_entry log refl)
      (steady (known_of journal p) refused_entry cs are cs (record { domains = refl; closed = refl; begun = refl; sent = refl }) refl (λ k. refl)
      (λ k. ap (λ r. option_map_or (λ (b : Base). is_of_chain (Some k) b.chain) (began_by (world_in (queue_of p).domains) earlier (ChainBegin id mode) r) false) refused_reply) refl)

  pub refused_fails : length journal.log < 1000000 → Fails (known_of journal p) (known_of journal' p) (record { client = client; number = entries_of journal.log client; call = ChainBegin id mode }) f
  refused_fails room =
      fails_of (known_of journal p) (known_of journal' p) refused_entry (is_closed earlier id) (failed_by earlier id) (has_open earlier id) (not (is_live (world_in (queue_of p).domains) earlier (domain_of earlier id))) (domain_of earlier id) f refused
      (made_now journal journal' p is client (ChainBegin id mode) log (Refused f) room refused_reply)
