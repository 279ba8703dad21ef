-- Settles, pumps and cancels: what is kept stays the log's, and the answer is the log's.
use Rattle.std.proofs.Common.{◌≡◌, ℕ, ◌+◌, ◌-◌, ◌<◌, ◌≤◌, Bool, false, List, [], ◌∷◌, ◌++◌, length, Option, None, Some, refl, ap, sym, ◌∙◌, subst, arith, append-nil, nat_eq}
use Rattle.std.specs.Prelude.{slice_get, ◌||◌}
use Rattle.std.specs.Option.{option_map, option_to_list}
use Rattle.std.proofs.lemmas.Option.{same_Some, slice_get_within}
use Rattle.sal_rows.specs.declared.outcome.Outcome.{Outcome}
use Rattle.sal_tx.specs.declared.tx.Submission.{Submission}
use Rattle.sal_history.specs.declared.call.Call.{Call}
use Rattle.sal_history.specs.declared.call.Call.TheVariants.{Cancel, Pump, Settle}
use Rattle.sal_history.specs.declared.call.Entry.{Entry}
use Rattle.sal_history.specs.declared.reply.Reply.{Reply}
use Rattle.sal_history.specs.declared.reply.Reply.TheVariants.{Decided, Nothing, Settled}
use Rattle.sal_history.specs.World.{Domain}
use Rattle.sal_history.specs.History.{Answered, decide_front, decide_next, decided_by, entries_of, history, is_live, opened_chain, outcome, outcomes, pending, pumped, reply_to, sent_by, sents, settled, spends}
use Rattle.sal_history.specs.Numbered.{numbered}
use Rattle.sal_history.specs.Services.{mount_call}
use Rattle.sal_history.specs.Submissions.{Sent}
use Rattle.sal_history.specs.Versions.{tables_now, upgraded}
use Rattle.sal_history.proofs.Numbered.{numbered-at}
use Rattle.sal_schema.specs.declared.table.SchemaTable.{SchemaTable}
use Rattle.sal_hub.specs.declared.pipeline.Pipeline.{Pipeline}
use Rattle.sal_hub.specs.declared.receipt.Receipt.{Receipt}
use Rattle.sal_hub.specs.Answers.{Made}
use Rattle.sal_hub.specs.Current.{IsCurrent, IsKept, answers, known_of}
use Rattle.sal_hub.specs.Journals.{Noted, jotted, mark_at}
use Rattle.sal_hub.specs.HubHistory.{HubHistory, more}
use Rattle.sal_hub.specs.PipelineView.{AllKept, AreDecided, PipelineView, is_live_in, queue_of, sent_of, table_in, world_in}
use Rattle.sal_hub.specs.Tokens.{IsGiven}
use Rattle.sal_hub.proofs.Beginning.{quiet_kept}
use Rattle.sal_hub.proofs.Deciding.{sent_at, versions-same}
use Rattle.sal_hub.proofs.Histories.{sents-few, sents-push}
use Rattle.sal_hub.proofs.Keeping.{length-submissions, none_more, or_false, pushed, still_live, unsent}
use Rattle.sal_hub.proofs.Listed.{slice_get_more, slice_get_none, slice_get_seam, slice_get_some}
use Rattle.sal_hub.proofs.Submitting.{swapped}

-- ---- cancel

pub cancel_kept : (journal journal' : Noted) (p : Pipeline) → IsKept journal p → (client place : ℕ) → journal'.log ≡ jotted journal.log client (Cancel place) → ((k : ℕ) → mark_at journal'.marks k ≡ (nat_eq place k || mark_at journal.marks k)) → IsKept journal' p
cancel_kept journal journal' p is client place log marks =
    let e : Entry = record { client = client; number = entries_of journal.log client; call = Cancel place } in
    record {
      kept = is.kept;
      current = subst (λ (l : List Entry). IsCurrent l journal'.marks (queue_of p)) (sym log)
          (pushed journal.log journal.marks (queue_of p) is.current e refl (queue_of p) journal'.marks (unsent journal.log journal.marks (queue_of p) is.current e (queue_of p) refl is.current.sound) refl
          (versions-same (queue_of p).domains)
          (sym (append-nil (queue_of p).outcomes)) (λ k. marks k ∙ swapped (nat_eq place k) (mark_at journal.marks k)) (none_more (length (queue_of p).failures))
          (still_live journal.log journal.marks (queue_of p) is.current e (queue_of p) refl (λ n. refl)));
      let_go = is.let_go;
    }

-- ---- decisions

-- there are no more submissions than entries
pub few : (journal : Noted) (p : Pipeline) → IsKept journal p → p.gone + length p.waiting.items ≤ length journal.log
few journal p is =
    omega (arith, length-submissions journal.log journal.marks (queue_of p) is.current, sents-few (world_in (queue_of p).domains) journal.log)

-- the submissions that wait are those that are not decided
pub waiting_is : (journal : Noted) (p : Pipeline) → IsKept journal p → length p.waiting.items ≡ pending (history (known_of journal p).world journal.log)
waiting_is journal p is =
    let all : p.gone + length p.waiting.items ≡ length (sents (answers journal.log (queue_of p))) = length-submissions journal.log journal.marks (queue_of p) is.current in
    let done : length p.outcomes.items ≡ length (outcomes (answers journal.log (queue_of p))) = ap length is.current.outcomes in
    let gone = is.let_go in
    omega (arith, all, done, gone)

-- the submission of a receipt that was given is of its domain
pub given_at : (known : HubHistory) (receipt : Receipt) → IsGiven known receipt → (s : Sent) × (slice_get (sents (history known.world known.log)) (receipt.number - 1) ≡ Some s) × (s.base.domain ≡ receipt.domain)
given_at known receipt given = found (slice_get (sents (history known.world known.log)) (receipt.number - 1)) refl given.1
  where
    found : (o : Option Sent) → slice_get (sents (history known.world known.log)) (receipt.number - 1) ≡ o → option_map (λ (s : Sent). s.base.domain) o ≡ Some receipt.domain
        → (s : Sent) × (slice_get (sents (history known.world known.log)) (receipt.number - 1) ≡ Some s) × (s.base.domain ≡ receipt.domain)
    found None at of_domain = cc
    found (Some s) at of_domain = (s, at, same_Some s.base.domain receipt.domain of_domain)

pub given_within : (journal : Noted) (p : Pipeline) (receipt : Receipt) → IsKept journal p → IsGiven (known_of journal p) receipt → receipt.number ≤ p.gone + length p.waiting.items
given_within journal p receipt is given =
    let (s, at, same) = given_at (known_of journal p) receipt given in
    let low : receipt.number - 1 < length (sents (answers journal.log (queue_of p))) = slice_get_within (sents (answers journal.log (queue_of p))) (receipt.number - 1) s at in
    omega (arith, low, given.0, length-submissions journal.log journal.marks (queue_of p) is.current)

module _ (journal journal' : Noted) (p p' : Pipeline) (is : IsKept journal p) (client : ℕ) (call : Call) (n : ℕ) (log : journal'.log ≡ jotted journal.log client call) (decided : AreDecided (sents (answers journal.log (queue_of p))) (queue_of p) n (queue_of p')) where
  abbrev entry : Entry
  entry = record { client = client; number = entries_of journal.log client; call = call }

  -- a call that decides the next n
  pub decided_kept : upgraded call (reply_to (world_in (queue_of p).domains) (answers journal.log (queue_of p)) client call) ≡ false → mount_call call ≡ None → decided_by (world_in (queue_of p).domains) (answers journal.log (queue_of p)) call ≡ decide_next (world_in (queue_of p).domains) (table_in (queue_of p).domains) (is_live_in (queue_of p).domains) (sents (answers journal.log (queue_of p))) p.outcomes.items n
      → sent_by (answers journal.log (queue_of p)) call (reply_to (world_in (queue_of p).domains) (answers journal.log (queue_of p)) client call) ≡ None
      → ((k : ℕ) → spends call (reply_to (world_in (queue_of p).domains) (answers journal.log (queue_of p)) client call) k ≡ false)
      → opened_chain call (reply_to (world_in (queue_of p).domains) (answers journal.log (queue_of p)) client call) ≡ None
      → AllKept p'.domains.items → p'.gone ≡ length p'.outcomes.items → ((k : ℕ) → mark_at journal'.marks k ≡ mark_at journal.marks k) → IsKept journal' p'
  decided_kept unraised unmounted decides none unspent unopened kept gone marks = record {
    kept = kept;
    current = subst (λ (l : List Entry). IsCurrent l journal'.marks (queue_of p')) (sym log)
        (pushed journal.log journal.marks (queue_of p) is.current entry unraised (queue_of p') journal'.marks (unsent journal.log journal.marks (queue_of p) is.current entry (queue_of p') none decided.sound) decided.world
        decided.versions
        (decided.outcomes ∙ ap (λ (os : List Outcome). p.outcomes.items ++ os) (sym decides))
        (λ k. marks k ∙ sym (or_false (mark_at journal.marks k)) ∙ ap (λ b. mark_at journal.marks k || b) (sym (unspent k)))
        (decided.chains ∙ none_more (length (queue_of p).failures) ∙ ap (λ (o : Option ℕ). length (queue_of p).failures + length (option_to_list o)) (sym unopened))
        (still_live journal.log journal.marks (queue_of p) is.current entry (queue_of p') unmounted decided.live));
    let_go = gone;
  }

  pub decided_made : (r : Reply) → length journal.log < 1000000 → reply_to (world_in (queue_of p).domains) (answers journal.log (queue_of p)) client call ≡ r → Made (known_of journal p) (known_of journal' p') (record { client = client; number = entries_of journal.log client; call = call }) r
  decided_made r room reply = record { room = room; log = λ i. record { world = decided.world i; log = log i }; reply = reply }

-- the decisions, by the invariants
kept_decides : (journal : Noted) (p : Pipeline) (is : IsKept journal p) (n : ℕ)
    → decide_next (world_in (queue_of p).domains) (tables_now (world_in (queue_of p).domains) (answers journal.log (queue_of p))) (is_live (world_in (queue_of p).domains) (answers journal.log (queue_of p))) (sents (answers journal.log (queue_of p))) (outcomes (answers journal.log (queue_of p))) n
    ≡ decide_next (world_in (queue_of p).domains) (table_in (queue_of p).domains) (is_live_in (queue_of p).domains) (sents (answers journal.log (queue_of p))) p.outcomes.items n
kept_decides journal p is n = λ i. decide_next (world_in (queue_of p).domains) (λ d. sym (is.current.tables d) i) (λ d. sym (is.current.live d) i) (sents (answers journal.log (queue_of p))) (sym is.current.outcomes i) n

-- a submission that waits, as the log has it
pub kept_sent : (journal : Noted) (p : Pipeline) (is : IsKept journal p) (i : ℕ) (s : Submission) → slice_get p.waiting.items i ≡ Some s → slice_get (sents (answers journal.log (queue_of p))) (p.gone + i) ≡ Some (sent_of s)
kept_sent journal p is i s at = sent_at (sents (answers journal.log (queue_of p))) (queue_of p) is.current.sound i s at

-- a receipt stays one
pub given_last : (known : HubHistory) (e : Entry) (receipt : Receipt) → IsGiven known receipt → IsGiven (more known e) receipt
given_last known e receipt was = (was.0, last (slice_get (sents (history known.world known.log)) (receipt.number - 1)) refl was.1)
  where
    last : (o : Option Sent) → slice_get (sents (history known.world known.log)) (receipt.number - 1) ≡ o → option_map (λ (s : Sent). s.base.domain) o ≡ Some receipt.domain
        → option_map (λ (s : Sent). s.base.domain) (slice_get (sents (history known.world (known.log ++ e ∷ []))) (receipt.number - 1)) ≡ Some receipt.domain
    last None at is = cc
    last (Some s) at is =
        ap (option_map (λ (t : Sent). t.base.domain))
        (ap (λ (ss : List Sent). slice_get ss (receipt.number - 1)) (sents-push known.world known.log e)
        ∙ slice_get_more (sents (history known.world known.log)) (option_to_list (sent_by (history known.world known.log) e.call (reply_to known.world (history known.world known.log) e.client e.call))) (receipt.number - 1) s at)
        ∙ is

-- ---- settle

module _ (journal journal' : Noted) (p p' : Pipeline) (is : IsKept journal p) (client : ℕ) (receipt : Receipt) (log : journal'.log ≡ jotted journal.log client (Settle receipt.number)) (decided : AreDecided (sents (answers journal.log (queue_of p))) (queue_of p) (receipt.number - length p.outcomes.items) (queue_of p')) where
  abbrev n : ℕ
  n = receipt.number

  now_decided : decided_by (world_in (queue_of p).domains) (answers journal.log (queue_of p)) (Settle n) ≡ decide_next (world_in (queue_of p).domains) (table_in (queue_of p).domains) (is_live_in (queue_of p).domains) (sents (answers journal.log (queue_of p))) p.outcomes.items (n - length p.outcomes.items)
  now_decided =
      ap (λ (os : List Outcome). decide_next (world_in (queue_of p).domains) (tables_now (world_in (queue_of p).domains) (answers journal.log (queue_of p))) (is_live (world_in (queue_of p).domains) (answers journal.log (queue_of p))) (sents (answers journal.log (queue_of p))) (outcomes (answers journal.log (queue_of p))) (n - length os)) (sym is.current.outcomes)
      ∙ kept_decides journal p is (n - length p.outcomes.items)

  pub settled_kept : AllKept p'.domains.items → p'.gone ≡ length p'.outcomes.items → ((k : ℕ) → mark_at journal'.marks k ≡ mark_at journal.marks k) → IsKept journal' p'
  settled_kept kept gone marks = decided_kept journal journal' p p' is client (Settle n) (n - length p.outcomes.items) log decided refl refl now_decided refl (λ k. refl) refl kept gone marks

  pub settled_made : (o : Outcome) → length journal.log < 1000000 → IsGiven (known_of journal p) receipt → slice_get p'.outcomes.items (receipt.number - 1) ≡ Some o
      → Made (known_of journal p) (known_of journal' p') (record { client = client; number = entries_of journal.log client; call = Settle receipt.number }) (Settled receipt.domain o)
  settled_made o room given at =
      let (s, here, of_domain) = given_at (known_of journal p) receipt given in
      let submission : numbered (sents (answers journal.log (queue_of p))) n ≡ Some s = numbered-at (sents (answers journal.log (queue_of p))) n s given.0 here in
      let all : List Outcome = outcomes (answers journal.log (queue_of p)) ++ decided_by (world_in (queue_of p).domains) (answers journal.log (queue_of p)) (Settle n) in
      let outcome : slice_get (outcomes (answers journal.log (queue_of p)) ++ decided_by (world_in (queue_of p).domains) (answers journal.log (queue_of p)) (Settle n)) (n - 1) ≡ Some o =
      ap (λ (os : List Outcome). slice_get os (n - 1)) ((λ i. sym is.current.outcomes i ++ now_decided i) ∙ sym decided.outcomes) ∙ at in
      decided_made journal journal' p p' is client (Settle n) (n - length p.outcomes.items) log decided (Settled receipt.domain o) room
      ((λ i. settled (submission i) (numbered-at all n o given.0 outcome i)) ∙ ap (λ d. Settled d o) of_domain)

-- without a decision nothing changes
pub unsettled_kept : (journal journal' : Noted) (p p' : Pipeline) → IsKept journal p → AllKept p'.domains.items → queue_of p' ≡ queue_of p → journal' ≡ journal → IsKept journal' p'
unsettled_kept journal journal' p p' is kept same undone = record {
  kept = kept;
  current = subst (λ (l : PipelineView). IsCurrent journal'.log journal'.marks l) (sym same) (subst (λ (j : Noted). IsCurrent j.log j.marks (queue_of p)) (sym undone) is.current);
  let_go = ap (λ (l : PipelineView). l.gone) same ∙ is.let_go ∙ sym (ap (λ (l : PipelineView). length l.outcomes) same);
}

pub unsettled_known : (journal journal' : Noted) (p p' : Pipeline) → queue_of p' ≡ queue_of p → journal' ≡ journal → known_of journal' p' ≡ known_of journal p
unsettled_known journal journal' p p' same undone = λ i. record { world = world_in (same i).domains; log = (undone i).log }

-- ---- pump

module _ (journal journal' : Noted) (p : Pipeline) (is : IsKept journal p) (client : ℕ) (log : journal'.log ≡ jotted journal.log client Pump) where
  abbrev here : List Domain
  here = world_in (queue_of p).domains

  abbrev lives : ℕ → Bool
  lives = is_live_in (queue_of p).domains

  abbrev tables : ℕ → SchemaTable
  tables = table_in (queue_of p).domains

  abbrev done : List Answered
  done = answers journal.log (queue_of p)

  count : length (outcomes done) ≡ length p.outcomes.items
  count = sym (ap length is.current.outcomes)

  -- the first that is not decided
  abbrev front : Option Sent
  front = slice_get (sents done) (length p.outcomes.items)

  is_front : slice_get (sents done) (length (outcomes done)) ≡ front
  is_front = ap (slice_get (sents done)) count

  module _ (none : length p.waiting.items ≤ 0) where
    nothing_left : front ≡ None
    nothing_left = slice_get_none (sents done) (length p.outcomes.items) (omega (arith, none, length-submissions journal.log journal.marks (queue_of p) is.current, is.let_go))

    nothing_decided : decided_by here done Pump ≡ []
    nothing_decided = kept_decides journal p is 1 ∙ ap (λ (o : Option Sent). decide_front here tables lives (sents done) p.outcomes.items o ++ []) nothing_left

    pub idle_kept : ((k : ℕ) → mark_at journal'.marks k ≡ mark_at journal.marks k) → IsKept journal' p
    idle_kept marks = quiet_kept journal journal' p is client Pump log refl refl refl nothing_decided (λ k. refl) refl marks

    pub idle_reply : reply_to (world_in (queue_of p).domains) (answers journal.log (queue_of p)) client Pump ≡ Nothing
    idle_reply = λ i. pumped (length (outcomes done) + 1) ((is_front ∙ nothing_left) i) (nothing_decided i)

  module _ (p' : Pipeline) (decided : AreDecided (sents (answers journal.log (queue_of p))) (queue_of p) (length p.outcomes.items + 1 - length p.outcomes.items) (queue_of p')) where
    one_decided : AreDecided (sents done) (queue_of p) 1 (queue_of p')
    one_decided = let one : length p.outcomes.items + 1 - length p.outcomes.items ≡ 1 = omega arith in subst (λ n. AreDecided (sents done) (queue_of p) n (queue_of p')) one decided

    pub pumped_kept : AllKept p'.domains.items → p'.gone ≡ length p'.outcomes.items → ((k : ℕ) → mark_at journal'.marks k ≡ mark_at journal.marks k) → IsKept journal' p'
    pumped_kept kept gone marks = decided_kept journal journal' p p' is client Pump 1 log one_decided refl refl (kept_decides journal p is 1) refl (λ k. refl) refl kept gone marks

    module _ (receipt : Receipt) (number : receipt.number ≡ length p.outcomes.items + 1) (of_domain : option_map (λ (s : Submission). s.domain) (slice_get p.waiting.items 0) ≡ Some receipt.domain) where
      -- the submission that is decided, as the log has it
      its_front : (s : Submission) → slice_get p.waiting.items 0 ≡ Some s → front ≡ Some (sent_of s)
      its_front s there =
          let place : p.gone + 0 ≡ length p.outcomes.items = omega (arith, is.let_go) in
          ap (slice_get (sents done)) (sym place) ∙ kept_sent journal p is 0 s there

      waits : 0 < length p.waiting.items → (s : Submission) × (slice_get p.waiting.items 0 ≡ Some s)
      waits within = slice_get_some p.waiting.items 0 within

      pub pumped_made : (o : Outcome) → length journal.log < 1000000 → 0 < length p.waiting.items → slice_get p'.outcomes.items (length p.outcomes.items) ≡ Some o
          → Made (known_of journal p) (known_of journal' p') (record { client = client; number = entries_of journal.log client; call = Pump }) (Decided receipt.number receipt.domain o)
      pumped_made o room within at =
          let (s, there) = waits within in
          let sent : front ≡ Some (sent_of s) = its_front s there in
          let x : Outcome = outcome here tables lives (sents done) p.outcomes.items (sent_of s) in
          let one : decide_next here tables lives (sents done) p.outcomes.items 1 ≡ x ∷ [] = ap (λ (t : Option Sent). decide_front here tables lives (sents done) p.outcomes.items t ++ []) sent in
          let grown : p'.outcomes.items ≡ p.outcomes.items ++ x ∷ [] = one_decided.outcomes ∙ ap (λ (os : List Outcome). p.outcomes.items ++ os) one in
          let same : x ≡ o = same_Some x o (sym (slice_get_seam p.outcomes.items x []) ∙ ap (λ (os : List Outcome). slice_get os (length p.outcomes.items)) (sym grown) ∙ at) in
          let domain : s.domain ≡ receipt.domain = same_Some s.domain receipt.domain (ap (option_map (λ (t : Submission). t.domain)) (sym there) ∙ of_domain) in
          decided_made journal journal' p p' is client Pump 1 log one_decided (Decided receipt.number receipt.domain o) room
          ((λ i. pumped (count i + 1) ((is_front ∙ sent) i) ((kept_decides journal p is 1 ∙ one ∙ ap (λ y. y ∷ []) same) i))
          ∙ (λ i. Decided (sym number i) (domain i) o))

      -- its receipt was given
      pub pumped_given : 0 < length p.waiting.items → IsGiven (known_of journal' p') receipt
      pumped_given within =
          let place : receipt.number - 1 ≡ length p.outcomes.items = omega (arith, number) in
          let (s, there) = waits within in
          let e : Entry = record { client = client; number = entries_of journal.log client; call = Pump } in
          let before : IsGiven (known_of journal p) receipt = (
            omega (arith, number),
            ap (λ n. option_map (λ (t : Sent). t.base.domain) (slice_get (sents done) n)) place ∙ ap (option_map (λ (t : Sent). t.base.domain)) (its_front s there)
                ∙ ap (option_map (λ (t : Submission). t.domain)) (sym there) ∙ of_domain,
          ) in
          subst (λ (known : HubHistory). IsGiven known receipt) (λ i. let known : HubHistory = record { world = sym one_decided.world i; log = sym log i } in known) (given_last (known_of journal p) e receipt before)
