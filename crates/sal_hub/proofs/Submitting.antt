-- A submit: what is kept stays the log's, and the answer is the log's.
use Rattle.std.proofs.Common.{◌≡◌, ℕ, ◌+◌, ◌-◌, ◌<◌, ◌≤◌, Bool, true, false, List, [], ◌∷◌, ◌++◌, length, map, Option, None, Some, refl, ap, sym, ◌∙◌, subst, arith, append-nil, if◌then◌else◌, nat_eq, nat_lt}
use Rattle.std.specs.Prelude.{slice_get, unwrap_or, IfSome, ◌||◌}
use Rattle.std.specs.Option.{option_map, option_to_list}
use Rattle.std.proofs.lemmas.List.{length-map}
use Rattle.std.proofs.lemmas.Option.{same_Some}
use Rattle.sal_types.specs.declared.row.Row.{Row}
use Rattle.sal_rows.specs.declared.op.Op.{Op}
use Rattle.sal_rows.specs.declared.outcome.CallFault.{CallFault}
use Rattle.sal_rows.specs.declared.outcome.CallFault.TheVariants.{PipelineFull, TxSpent}
use Rattle.sal_schema.specs.declared.table.SchemaTable.{SchemaTable}
use Rattle.sal_types.specs.declared.value.Store.{Store}
use Rattle.sal_tree.specs.declared.commit.Pair.{Pair}
use Rattle.sal_tx.specs.declared.tx.Submission.{Submission}
use Rattle.sal_tx.specs.declared.writing.Writing.{Writing}
use Rattle.sal_tx.specs.Views.{AreLawful, IsRight, Shows, rows_in as tx_rows}
use Rattle.sal_tx.proofs.Nexts.{lie_below}
use Rattle.sal_commit.specs.declared.domain.Domain.{Domain}
use Rattle.sal_history.specs.declared.call.Call.TheVariants.{Submit}
use Rattle.sal_history.specs.declared.call.Entry.{Entry}
use Rattle.sal_history.specs.declared.reply.Reply.{Reply}
use Rattle.sal_history.specs.declared.reply.Reply.TheVariants.{Receipt, Refused}
use Rattle.sal_history.specs.World as world
use Rattle.sal_history.specs.History.{Answered, commits, entries_of, nowhere, outcomes, reply_to, sent_by, sents, spends, submitted}
use Rattle.sal_history.specs.Submissions.{Base, Sent}
use Rattle.sal_history.specs.Versions.{schema_version, tables_now, version_at}
use Rattle.sal_history_laws.specs.Lawful.{AreLawful as AreSentOver}
use Rattle.sal_history_laws.proofs.Versions.{later_lawful}
use Rattle.sal_history_laws.specs.Logs.{IsSentLawful}
use Rattle.sal_hub.specs.declared.pipeline.Pipeline.{Pipeline}
use Rattle.sal_hub.specs.Answers.{Fails, Made}
use Rattle.sal_hub.specs.Begins.{IsOfWriter}
use Rattle.sal_hub.specs.Current.{IsCurrent, IsKept, answers, known_of}
use Rattle.sal_hub.specs.Failures.{IsWithin}
use Rattle.sal_hub.specs.Journals.{Noted, jotted, mark_at}
use Rattle.sal_hub.specs.HubHistory.{HubHistory}
use Rattle.sal_hub.specs.PipelineView.{AllKept, IsSound, PipelineView, Stands, commits_in, queue_of, opened_as, sent_of, shown, world_in}
use Rattle.sal_hub.specs.Submits.{refusal_of, submission_of}
use Rattle.sal_hub.specs.Tokens.{IsBegun, IsGiven}
use Rattle.sal_hub.proofs.Beginning.{quiet_kept}
use Rattle.sal_hub.proofs.Keeping.{commits-current, length-submissions, none_more, pushed, sound-longer, still_live}
use Rattle.sal_hub.proofs.Deciding.{sent_at, versions-same}
use Rattle.sal_hub.proofs.Versioned.{numbered, version_at-low}
use Rattle.sal_hub.proofs.Listed.{slice_get_seam}
use Rattle.sal_hub.proofs.Standing.{IsAt, are_at}
use Rattle.sal_hub.proofs.Starting.{same_rows}

-- the operations of a transaction are lawful, as the log has it
as_sent : (table : SchemaTable) (base : Pair) (earlier ops : List Op) → AreLawful table base earlier ops → AreSentOver table (λ s. tx_rows base s) earlier ops
as_sent table base earlier [] l = tt
as_sent table base earlier (op ∷ ops) l = (l.0, as_sent table base (earlier ++ op ∷ []) ops l.1)

pub swapped : (a b : Bool) → (a || b) ≡ (b || a)
swapped true true = refl
swapped true false = refl
swapped false true = refl
swapped false false = refl

-- ---- refusals

abbrev answer_by : ℕ → ℕ → Bool → Reply
answer_by count n b = if nat_lt n 4096 then (if b then Refused TxSpent else Receipt (count + 1)) else Refused PipelineFull

refused_by : (count n : ℕ) (b : Bool) (f : CallFault) → refusal_of n b ≡ Some f → answer_by count n b ≡ Refused f
refused_by count n b f =
    elim (nat_lt n 4096) as (λ room. (if room then (if b then Some TxSpent else None) else Some PipelineFull) ≡ Some f → (if room then (if b then Refused TxSpent else Receipt (count + 1)) else Refused PipelineFull) ≡ Refused f) [
      | false ↦ λ e. ap Refused (same_Some PipelineFull f e)
      | true ↦ elim b as (λ spent. (if spent then Some TxSpent else None) ≡ Some f → (if spent then Refused TxSpent else Receipt (count + 1)) ≡ Refused f) [
        | true ↦ λ e. ap Refused (same_Some TxSpent f e)
        | false ↦ λ e. cc
      ]
    ]

accepted_by : (count n : ℕ) (b : Bool) → refusal_of n b ≡ None → answer_by count n b ≡ Receipt (count + 1)
accepted_by count n b =
    elim (nat_lt n 4096) as (λ room. (if room then (if b then Some TxSpent else None) else Some PipelineFull) ≡ None → (if room then (if b then Refused TxSpent else Receipt (count + 1)) else Refused PipelineFull) ≡ Receipt (count + 1)) [
      | false ↦ λ e. cc
      | true ↦ elim b as (λ spent. (if spent then Some TxSpent else None) ≡ None → (if spent then Refused TxSpent else Receipt (count + 1)) ≡ Receipt (count + 1)) [
        | true ↦ λ e. cc
        | false ↦ λ e. refl
      ]
    ]

-- a refusal has its entry
pub fails_by : (old new : HubHistory) (e : Entry) (n : ℕ) (b : Bool) (f : CallFault) → refusal_of n b ≡ Some f → Made old new e (Refused f) → Fails old new e f
fails_by old new e n b f =
    elim (nat_lt n 4096) as (λ room. (if room then (if b then Some TxSpent else None) else Some PipelineFull) ≡ Some f → Made old new e (Refused f) → Fails old new e f) [
      | false ↦ λ is made. let same : PipelineFull ≡ f = same_Some PipelineFull f is in subst (Fails old new e) same (subst (λ g. Made old new e (Refused g)) (sym same) made)
      | true ↦ elim b as (λ spent. (if spent then Some TxSpent else None) ≡ Some f → Made old new e (Refused f) → Fails old new e f) [
        | true ↦ λ is made. let same : TxSpent ≡ f = same_Some TxSpent f is in subst (Fails old new e) same (subst (λ g. Made old new e (Refused g)) (sym same) made)
        | false ↦ λ is made. cc
      ]
    ]

module _ (journal journal' : Noted) (p : Pipeline) (is : IsKept journal p) (client place : ℕ) (ops : List Op) (log : journal'.log ≡ jotted journal.log client (Submit place ops)) where
  abbrev w : List world.Domain
  w = world_in (queue_of p).domains

  abbrev answered : List Answered
  answered = answers journal.log (queue_of p)

  abbrev entry : Entry
  entry = record { client = client; number = entries_of journal.log client; call = Submit place ops }

  abbrev waiting : ℕ
  waiting = p.gone + length p.waiting.items - length p.outcomes.items

  -- the answer, by what is kept
  by_kept : submitted answered place ≡ answer_by (p.gone + length p.waiting.items) waiting (mark_at journal.marks place)
  by_kept =
      let count : length (sents answered) ≡ p.gone + length p.waiting.items = sym (length-submissions journal.log journal.marks (queue_of p) is.current) in
      let done : length (outcomes answered) ≡ length p.outcomes.items = sym (ap length is.current.outcomes) in
      λ i. answer_by (count i) (count i - done i) (sym (is.current.marks place) i)

  pub refused_now : (f : CallFault) → refusal_of (p.gone + length p.waiting.items - length p.outcomes.items) (mark_at journal.marks place) ≡ Some f → reply_to (world_in (queue_of p).domains) (answers journal.log (queue_of p)) client (Submit place ops) ≡ Refused f
  refused_now f e = by_kept ∙ refused_by (p.gone + length p.waiting.items) waiting (mark_at journal.marks place) f e

  pub accepted_now : refusal_of (p.gone + length p.waiting.items - length p.outcomes.items) (mark_at journal.marks place) ≡ None → reply_to (world_in (queue_of p).domains) (answers journal.log (queue_of p)) client (Submit place ops) ≡ Receipt (p.gone + length p.waiting.items + 1)
  accepted_now e = by_kept ∙ accepted_by (p.gone + length p.waiting.items) waiting (mark_at journal.marks place) e

  pub refused_kept : (f : CallFault) → refusal_of (p.gone + length p.waiting.items - length p.outcomes.items) (mark_at journal.marks place) ≡ Some f → ((k : ℕ) → mark_at journal'.marks k ≡ mark_at journal.marks k) → IsKept journal' p
  refused_kept f e marks =
      let reply = refused_now f e in
      quiet_kept journal journal' p is client (Submit place ops) log refl refl (ap (sent_by answered (Submit place ops)) reply) refl (λ k. ap (λ r. spends (Submit place ops) r k) reply) refl marks

  pub refused_made : (f : CallFault) → length journal.log < 1000000 → refusal_of (p.gone + length p.waiting.items - length p.outcomes.items) (mark_at journal.marks place) ≡ Some f → Made (known_of journal p) (known_of journal' p) (record { client = client; number = entries_of journal.log client; call = Submit place ops }) (Refused f)
  refused_made f room e = record {
    room = room;
    log = λ i. record { world = w; log = log i };
    reply = refused_now f e;
  }

-- the domain of a submission, as the log has it
pub given_domain : (journal : Noted) (p : Pipeline) → IsKept journal p → (i : ℕ) (s : Submission) → slice_get p.waiting.items i ≡ Some s → option_map (λ (t : Sent). t.base.domain) (slice_get (sents (answers journal.log (queue_of p))) (p.gone + i)) ≡ Some s.domain
given_domain journal p is i s at = ap (option_map (λ (t : Sent). t.base.domain)) (sent_at (sents (answers journal.log (queue_of p))) (queue_of p) is.current.sound i s at)

-- ---- a submission more

module _ (journal journal' : Noted) (p p' : Pipeline) (is : IsKept journal p) (client : ℕ) (tx : Writing) (token : IsBegun (known_of journal p) tx.begun tx.mode tx.base) (right : IsRight tx) (view : Option Pair) (shown_so : IfSome view (Shows tx.base tx.changes)) (log : journal'.log ≡ jotted journal.log client (Submit tx.begun.place tx.changes)) (open_now : refusal_of (p.gone + length p.waiting.items - length p.outcomes.items) (mark_at journal.marks tx.begun.place) ≡ None)
    (member : IsWithin (length p.failures.items) tx.begun.chain) (domains : p'.domains ≡ p.domains) (failures_same : p'.failures ≡ p.failures) (outcomes_same : p'.outcomes ≡ p.outcomes) (as_gone : p'.gone ≡ p.gone) (waits : p'.waiting.items ≡ p.waiting.items ++ submission_of tx (p.gone + length p.waiting.items + 1) view ∷ []) (marks : (k : ℕ) → mark_at journal'.marks k ≡ (nat_eq tx.begun.place k || mark_at journal.marks k)) where
  abbrev new_world : List world.Domain
  new_world = world_in (queue_of p).domains

  abbrev before : List Answered
  before = answers journal.log (queue_of p)

  abbrev sub : Submission
  sub = submission_of tx (p.gone + length p.waiting.items + 1) view

  abbrev made_entry : Entry
  made_entry = record { client = client; number = entries_of journal.log client; call = Submit tx.begun.place tx.changes }

  abbrev more : PipelineView
  more = record { domains = (queue_of p).domains; gone = (queue_of p).gone; waiting = (queue_of p).waiting ++ sub ∷ []; outcomes = (queue_of p).outcomes; failures = (queue_of p).failures }

  queue_is : more ≡ queue_of p'
  queue_is = λ i. record { domains = map shown (sym domains i).items; gone = sym as_gone i; waiting = sym waits i; outcomes = (sym outcomes_same i).items; failures = (sym failures_same i).items }

  stands : Stands (sents before) (queue_of p) sub
  stands =
      let b : Base = record { domain = tx.begun.domain; commit = tx.begun.base_commit; chain = tx.begun.chain; trees = tx_rows tx.base } in
      let some : 0 < length new_world = omega (arith, is.current.sound.some, length-map (queue_of p).domains opened_as) in
      let on : IsAt new_world before b = (are_at new_world some journal.log).begun tx.begun.place b token.began in
      let same : commits_in (sents before) (queue_of p) tx.begun.domain ≡ commits before tx.begun.domain = commits-current journal.log journal.marks (queue_of p) tx.begun.domain is.current in
      record {
        domain = omega (arith, on.0, length-map (queue_of p).domains opened_as);
        base = subst (λ (cs : List (List Op)). tx.begun.base_commit ≤ length cs) (sym same) on.1;
        chain = member;
        seen = record { below = lie_below tx.begun.schema.value tx.base [] tx.changes right.lawful; view = shown_so };
      }

  reply_now : reply_to new_world before client (Submit tx.begun.place tx.changes) ≡ Receipt (p.gone + length p.waiting.items + 1)
  reply_now = accepted_now journal journal' p is client tx.begun.place tx.changes log open_now

  sent_now : sent_by before (Submit tx.begun.place tx.changes) (reply_to new_world before client (Submit tx.begun.place tx.changes)) ≡ Some (sent_of sub)
  sent_now =
      ap (sent_by before (Submit tx.begun.place tx.changes)) reply_now
      ∙ ap (λ (o : Option Base). Some (let s : Sent = record { base = unwrap_or o nowhere; ops = tx.changes } in s)) token.began
      ∙ (λ i. Some (let s : Sent = record { base = record { domain = tx.begun.domain; commit = tx.begun.base_commit; chain = tx.begun.chain; trees = λ store. same_rows tx.base store i }; ops = tx.changes } in s))

  -- its schema is the table of the version at its place
  by_then : tx.begun.schema.value ≡ world.table_of new_world (version_at before tx.begun.place) tx.begun.domain
  by_then =
      token.schema ∙ ap (λ v. world.table_of new_world v tx.begun.domain) token.version
      ∙ sym (numbered new_world (version_at before tx.begun.place) tx.begun.domain is.current.only)

  -- it is lawful over its transaction's base, by the present version as by that at its begin
  sub_lawful : IsSentLawful (tables_now new_world before) (sent_of sub)
  sub_lawful =
      later_lawful new_world (version_at before tx.begun.place) (schema_version before) (sent_of sub) is.current.openings (version_at-low before tx.begun.place)
      (subst (λ (trees : Store → List Row). AreSentOver (world.table_of new_world (version_at before tx.begun.place) tx.begun.domain) trees [] tx.changes) (λ i store. same_rows tx.base store i)
      (subst (λ (table : SchemaTable). AreSentOver table (λ s. tx_rows tx.base s) [] tx.changes) by_then (as_sent tx.begun.schema.value tx.base [] tx.changes right.lawful)))

  lawful_now : (s : Sent) → sent_by before (Submit tx.begun.place tx.changes) (reply_to new_world before client (Submit tx.begun.place tx.changes)) ≡ Some s → IsSentLawful (tables_now new_world before) s
  lawful_now s e = subst (IsSentLawful (tables_now new_world before)) (same_Some (sent_of sub) s (sym sent_now ∙ e)) sub_lawful

  -- it is of a transaction that began in a mode that writes
  writer_now : (t : Sent) → sent_by before (Submit tx.begun.place tx.changes) (reply_to new_world before client (Submit tx.begun.place tx.changes)) ≡ Some t → IsOfWriter before (length journal.log) (Submit tx.begun.place tx.changes) t
  writer_now t e =
      let own : IsOfWriter before (length journal.log) (Submit tx.begun.place tx.changes) (sent_of sub) = record {
        place = tx.begun.place;
        mode = tx.mode;
        named = refl;
        earlier = token.before;
        asked = token.mode;
        writes = right.writes;
        began = token.began ∙ (λ i. Some (let b : Base = record { domain = tx.begun.domain; commit = tx.begun.base_commit; chain = tx.begun.chain; trees = λ store. same_rows tx.base store i } in b));
      } in
      subst (IsOfWriter before (length journal.log) (Submit tx.begun.place tx.changes)) (same_Some (sent_of sub) t (sym sent_now ∙ e)) own

  current_now : IsCurrent (journal.log ++ made_entry ∷ []) journal'.marks more
  current_now =
      pushed journal.log journal.marks (queue_of p) is.current made_entry refl more journal'.marks
      (subst (λ (o : Option Sent). IsSound (sents before ++ option_to_list o) more) (sym sent_now) (sound-longer (sents before) (queue_of p) is.current.sound sub stands refl), lawful_now, writer_now) refl (versions-same (queue_of p).domains)
      (sym (append-nil (queue_of p).outcomes))
      (λ k.
      marks k ∙ swapped (nat_eq tx.begun.place k) (mark_at journal.marks k)
      ∙ ap (λ r. mark_at journal.marks k || spends (Submit tx.begun.place tx.changes) r k) (sym reply_now))
      (none_more (length p.failures.items))
      (still_live journal.log journal.marks (queue_of p) is.current made_entry more refl (λ n. refl))

  pub accepted_kept : IsKept journal' p'
  accepted_kept = record {
    kept = subst (λ (ds : List Domain). AllKept ds) (λ i. (sym domains i).items) is.kept;
    current = subst (λ (l : List Entry). IsCurrent l journal'.marks (queue_of p')) (sym log) (subst (IsCurrent (journal.log ++ made_entry ∷ []) journal'.marks) queue_is current_now);
    let_go = as_gone ∙ is.let_go ∙ (λ i. length (sym outcomes_same i).items);
  }

  pub accepted_made : length journal.log < 1000000 → Made (known_of journal p) (known_of journal' p') (record { client = client; number = entries_of journal.log client; call = Submit tx.begun.place tx.changes }) (Receipt (p.gone + length p.waiting.items + 1))
  accepted_made room = record {
    room = room;
    log = λ i. record { world = world_in (sym queue_is i).domains; log = log i };
    reply = reply_now;
  }

  pub accepted_given : IsGiven (known_of journal' p') (record { number = p.gone + length p.waiting.items + 1; domain = tx.begun.domain })
  accepted_given =
      let last : p'.gone + length p.waiting.items ≡ p.gone + length p.waiting.items + 1 - 1 = omega (arith, as_gone) in
      let there : slice_get p'.waiting.items (length p.waiting.items) ≡ Some sub = ap (λ (ss : List Submission). slice_get ss (length p.waiting.items)) waits ∙ slice_get_seam p.waiting.items sub [] in
      (omega arith, subst (λ n. option_map (λ (t : Sent). t.base.domain) (slice_get (sents (answers journal'.log (queue_of p'))) n) ≡ Some tx.begun.domain) last (given_domain journal' p' accepted_kept (length p.waiting.items) sub there))
