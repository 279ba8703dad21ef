-- The pipeline stays that of the log with each call.
use Rattle.std.proofs.Common.{◌≡◌, ℕ, ◌+◌, ◌≤◌, ◌<◌, Bool, true, false, List, [], ◌∷◌, ◌++◌, length, map, Option, None, Some, refl, ap, sym, ◌∙◌, subst, arith, append-nil, length-append, inl, inr}
use Rattle.std.specs.Prelude.{◌||◌, slice_get}
use Rattle.std.specs.Option.{option_to_list}
use Rattle.std.proofs.lemmas.List.{drop-append-le, length-map, map-append}
use Rattle.std.proofs.lemmas.Option.{none-some}
use Rattle.sal_rows.specs.declared.op.Op.{Op}
use Rattle.sal_rows.specs.declared.outcome.Outcome.{Outcome}
use Rattle.sal_tx.specs.declared.tx.Submission.{Submission}
use Rattle.sal_history.specs.declared.call.Call.{Call}
use Rattle.sal_history.specs.declared.call.Entry.{Entry}
use Rattle.sal_history.specs.declared.reply.Reply.{Reply}
use Rattle.sal_history.specs.World.{Domain, OneIsUpgraded, table_of}
use Rattle.sal_history.specs.Versions.{schema_version, tables_now, upgraded}
use Rattle.sal_history.proofs.Versions.{schema_version-same}
use Rattle.sal_history.specs.History.{Answered, chain_domains, commits, decided_by, history, is_live, is_spent, opened_chain, outcomes, reply_to, sent_by, sents, spends}
use Rattle.sal_history.specs.Services.{mount_call}
use Rattle.sal_history.specs.Submissions.{Sent, done_chains, done_ops}
use Rattle.sal_history_laws.proofs.Versions.{sents_stay_lawful}
use Rattle.sal_history_laws.specs.Logs.{AreSentLawful, AreSound, IsSentLawful}
use Rattle.sal_hub.specs.Begins.{AreOfWriters, IsOfWriter, mode_by}
use Rattle.sal_hub.specs.Current.{IsCurrent, answers, number_of}
use Rattle.sal_hub.specs.Journals.{mark_at}
use Rattle.sal_hub.specs.CommitReceipts.{commit_receipts}
use Rattle.sal_hub.specs.PipelineView.{DomainView, IsSound, KeepVersions, PipelineView, Stands, chains_in, commits_in, is_live_in, opened_as, receipts_in, sent_of, table_in, version_of, world_in}
use Rattle.sal_hub.proofs.Deciding.{count_is, done-submit, versions-same}
use Rattle.sal_hub.proofs.Histories.{chains-push, found-push, history-push, length-history, live-quiet, now_of, outcomes-push, sents-push, spent-push}
use Rattle.sal_hub.proofs.Listed.{last_or_before}
use Rattle.sal_hub.proofs.Members.{failing-submit}
use Rattle.sal_hub.proofs.Numbered.{receipts-submit}
pub use Rattle.sal_tree.proofs.Cells.{or_false}

pub or_true : (b : Bool) → (b || true) ≡ true
or_true true = refl
or_true false = refl

pub none_more : (n : ℕ) → n ≡ n + 0
none_more n = omega arith

-- the commits that are kept are the log's
pub commits-current : (log : List Entry) (marks : List Bool) (queue : PipelineView) (n : ℕ) → IsCurrent log marks queue → commits_in (sents (answers log queue)) queue n ≡ commits (answers log queue) n
commits-current log marks queue n was = λ i. done_ops n (sents (answers log queue)) (was.outcomes i)

pub chains-current : (log : List Entry) (marks : List Bool) (queue : PipelineView) (n : ℕ) → IsCurrent log marks queue → chains_in (sents (answers log queue)) queue n ≡ done_chains n (sents (answers log queue)) (outcomes (answers log queue))
chains-current log marks queue n was = λ i. done_chains n (sents (answers log queue)) (was.outcomes i)

pub receipts-current : (log : List Entry) (marks : List Bool) (queue : PipelineView) (n : ℕ) → IsCurrent log marks queue → receipts_in (sents (answers log queue)) queue n ≡ commit_receipts n (sents (answers log queue)) (outcomes (answers log queue))
receipts-current log marks queue n was = λ i. commit_receipts n (sents (answers log queue)) (was.outcomes i)

module _ (log : List Entry) (marks : List Bool) (queue : PipelineView) (was : IsCurrent log marks queue) (e : Entry) where
  abbrev world : List Domain
  world = world_in queue.domains

  abbrev answered : List Answered
  answered = answers log queue

  abbrev reply : Reply
  reply = reply_to world answered e.client e.call

  -- the same domains are live, if the call is not on mounts
  pub still_live : (queue' : PipelineView) → mount_call e.call ≡ None → ((n : ℕ) → is_live_in queue'.domains n ≡ is_live_in queue.domains n) → (n : ℕ) → is_live_in queue'.domains n ≡ is_live (world_in queue.domains) (history (world_in queue.domains) (log ++ e ∷ [])) n
  still_live queue' unmounted same n = same n ∙ was.live n ∙ sym (live-quiet world log e n unmounted)

  -- the present version stays, unless the call is an accepted upgrade
  pub still_version : upgraded e.call (reply_to (world_in queue.domains) (answers log queue) e.client e.call) ≡ false → schema_version (history (world_in queue.domains) (log ++ e ∷ [])) ≡ schema_version (answers log queue)
  still_version none = ap schema_version (history-push world log e) ∙ schema_version-same answered (now_of world answered e) none

  -- the transaction of a submission by the call, if it is one, began in a mode that writes
  abbrev pub IsWritten : Type 0
  IsWritten = (t : Sent) → sent_by (answers log queue) e.call (reply_to (world_in queue.domains) (answers log queue) e.client e.call) ≡ Some t → IsOfWriter (answers log queue) (length log) e.call t

  -- the submissions with that of the call, if it is one, and its operations, which are lawful
  abbrev pub Adds : PipelineView → Type 0
  Adds queue' =
      IsSound (sents (answers log queue) ++ option_to_list (sent_by (answers log queue) e.call (reply_to (world_in queue.domains) (answers log queue) e.client e.call))) queue'
      × ((s : Sent) → sent_by (answers log queue) e.call (reply_to (world_in queue.domains) (answers log queue) e.client e.call) ≡ Some s → IsSentLawful (tables_now (world_in queue.domains) (answers log queue)) s)
      × IsWritten

  -- a call that submits nothing
  pub unsent : (queue' : PipelineView) → sent_by (answers log queue) e.call (reply_to (world_in queue.domains) (answers log queue) e.client e.call) ≡ None → IsSound (sents (answers log queue)) queue'
      → Adds queue'
  unsent queue' none sound = (
    subst (λ (ss : List Sent). IsSound ss queue') (sym (append-nil (sents answered)) ∙ ap (λ (o : Option Sent). sents answered ++ option_to_list o) (sym none)) sound,
    λ s e. absurd (none-some s (sym none ∙ e)),
    λ t e. absurd (none-some t (sym none ∙ e)),
  )

  -- with it, the submissions of the log are lawful, whether the call is an upgrade or not
  pub lawful-push : ((s : Sent) → sent_by (answers log queue) e.call (reply_to (world_in queue.domains) (answers log queue) e.client e.call) ≡ Some s → IsSentLawful (tables_now (world_in queue.domains) (answers log queue)) s)
      → AreSentLawful (world_in queue.domains) (history (world_in queue.domains) (log ++ e ∷ []))
  lawful-push new i s at =
      subst (λ (later : List Answered). IsSentLawful (tables_now world later) s) (sym (history-push world log e))
      (sents_stay_lawful world answered (now_of world answered e) s was.openings
      (by (sent_by answered e.call reply) refl (ap (λ (ss : List Sent). slice_get ss i) (sym (sents-push world log e)) ∙ at)))
    where
      by : (o : Option Sent) → sent_by answered e.call reply ≡ o → slice_get (sents answered ++ option_to_list o) i ≡ Some s → IsSentLawful (tables_now world answered) s
      by None is there = was.lawful i s (ap (λ (ss : List Sent). slice_get ss i) (sym (append-nil (sents answered))) ∙ there)
      by (Some x) is there = elim (last_or_before (sents answered) x s i there) [
        | inl old ↦ was.lawful i s old
        | inr w ↦ new s (is ∙ ap Some w.1)
      ]

  -- and each is of a transaction that began in a mode that writes
  pub writers-push : IsWritten → AreOfWriters (history (world_in queue.domains) (log ++ e ∷ []))
  writers-push new k a t at sent =
      elim (last_or_before answered (now_of world answered e) a k (ap (λ (xs : List Answered). slice_get xs k) (sym (history-push world log e)) ∙ at)) [
        | inl old ↦ later k a.entry.call (was.writers k a t old sent)
        | inr w ↦
            let place : length log ≡ k = omega (arith, w.0, length-history world log) in
            let call : e.call ≡ a.entry.call = ap (λ (x : Answered). x.entry.call) w.1 in
            later k a.entry.call (subst (λ n. IsOfWriter answered n a.entry.call t) place (subst (λ c. IsOfWriter answered (length log) c t) call (new t (ap (λ (x : Answered). x.sent) w.1 ∙ sent))))
      ]
    where
      later : (n : ℕ) (call : Call) → IsOfWriter answered n call t → IsOfWriter (history world (log ++ e ∷ [])) n call t
      later n call b = record {
        place = b.place;
        mode = b.mode;
        named = b.named;
        earlier = b.earlier;
        asked = found-push world (λ (x : Answered). mode_by x.entry.call) log e b.place b.mode b.asked;
        writes = b.writes;
        began = found-push world (λ (x : Answered). x.began) log e b.place t.base b.began;
      }

  long : (queue' : PipelineView) → world_in queue'.domains ≡ world_in queue.domains → length queue'.domains ≡ length queue.domains
  long queue' same = sym (length-map queue'.domains opened_as) ∙ ap length same ∙ length-map queue.domains opened_as

  -- the entry with its trees, by the versions that its log gives
  pub pushed_as : (queue' : PipelineView) (marks' : List Bool) → Adds queue' → world_in queue'.domains ≡ world_in queue.domains
      → ((n : ℕ) → table_in queue'.domains n ≡ tables_now (world_in queue.domains) (history (world_in queue.domains) (log ++ e ∷ [])) n)
      → ((n : ℕ) → n < length queue.domains → version_of queue'.domains n ≡ number_of (schema_version (history (world_in queue.domains) (log ++ e ∷ []))) n)
      → queue'.outcomes ≡ queue.outcomes ++ decided_by (world_in queue.domains) (answers log queue) e.call
      → ((k : ℕ) → mark_at marks' k ≡ (mark_at marks k || spends e.call (reply_to (world_in queue.domains) (answers log queue) e.client e.call) k))
      → length queue'.failures ≡ length queue.failures + length (option_to_list (opened_chain e.call (reply_to (world_in queue.domains) (answers log queue) e.client e.call)))
      → ((n : ℕ) → is_live_in queue'.domains n ≡ is_live (world_in queue.domains) (history (world_in queue.domains) (log ++ e ∷ [])) n)
      → IsCurrent (log ++ e ∷ []) marks' queue'
  pushed_as queue' marks' adds same tables versions decided marked opened live = record {
    sound = subst (λ (ss : List Sent). IsSound ss queue') (sym (sents-push world log e) ∙ (λ i. sents (history (sym same i) (log ++ e ∷ [])))) adds.0;
    outcomes =
        decided ∙ ap (λ (os : List Outcome). os ++ decided_by world answered e.call) was.outcomes ∙ sym (outcomes-push world log e)
        ∙ (λ i. outcomes (history (sym same i) (log ++ e ∷ [])));
    marks = λ k.
        marked k ∙ ap (λ b. b || spends e.call reply k) (was.marks k) ∙ sym (spent-push world log e k)
        ∙ (λ i. is_spent (history (sym same i) (log ++ e ∷ [])) k);
    chains =
        opened ∙ ap (λ n. n + length (option_to_list (opened_chain e.call reply))) was.chains
        ∙ sym (length-append (chain_domains answered) (option_to_list (opened_chain e.call reply))) ∙ ap length (sym (chains-push world log e))
        ∙ (λ i. length (chain_domains (history (sym same i) (log ++ e ∷ []))));
    live = λ n. live n ∙ (λ i. is_live (sym same i) (history (sym same i) (log ++ e ∷ [])) n);
    lawful = subst (λ (w : List Domain). AreSentLawful w (history w (log ++ e ∷ []))) (sym same) (lawful-push adds.1);
    writers = subst (λ (w : List Domain). AreOfWriters (history w (log ++ e ∷ []))) (sym same) (writers-push adds.2);
    openings = subst AreSound (sym same) was.openings;
    only = subst OneIsUpgraded (sym same) was.only;
    tables = λ n. tables n ∙ (λ i. tables_now (sym same i) (history (sym same i) (log ++ e ∷ [])) n);
    versions = λ n low. versions n (omega (arith, low, long queue' same)) ∙ (λ i. number_of (schema_version (history (sym same i) (log ++ e ∷ []))) n);
  }

  -- the same for a call that is not an accepted upgrade: each domain keeps its version
  pub pushed : upgraded e.call (reply_to (world_in queue.domains) (answers log queue) e.client e.call) ≡ false → (queue' : PipelineView) (marks' : List Bool) → Adds queue' → world_in queue'.domains ≡ world_in queue.domains
      → KeepVersions queue.domains queue'.domains
      → queue'.outcomes ≡ queue.outcomes ++ decided_by (world_in queue.domains) (answers log queue) e.call
      → ((k : ℕ) → mark_at marks' k ≡ (mark_at marks k || spends e.call (reply_to (world_in queue.domains) (answers log queue) e.client e.call) k))
      → length queue'.failures ≡ length queue.failures + length (option_to_list (opened_chain e.call (reply_to (world_in queue.domains) (answers log queue) e.client e.call)))
      → ((n : ℕ) → is_live_in queue'.domains n ≡ is_live (world_in queue.domains) (history (world_in queue.domains) (log ++ e ∷ [])) n)
      → IsCurrent (log ++ e ∷ []) marks' queue'
  pushed none queue' marks' adds same kept decided marked opened live =
      pushed_as queue' marks' adds same
      (λ n. kept.tables n ∙ was.tables n ∙ ap (λ v. table_of world v n) (sym (still_version none)))
      (λ n low. kept.versions n ∙ was.versions n low ∙ ap (λ v. number_of v n) (sym (still_version none)))
      decided marked opened live

  -- a call that is not on mounts, and submits, decides, spends and opens nothing
  pub quiet : upgraded e.call (reply_to (world_in queue.domains) (answers log queue) e.client e.call) ≡ false → (marks' : List Bool) → mount_call e.call ≡ None → sent_by (answers log queue) e.call (reply_to (world_in queue.domains) (answers log queue) e.client e.call) ≡ None → decided_by (world_in queue.domains) (answers log queue) e.call ≡ []
      → ((k : ℕ) → spends e.call (reply_to (world_in queue.domains) (answers log queue) e.client e.call) k ≡ false) → ((k : ℕ) → mark_at marks' k ≡ mark_at marks k)
      → opened_chain e.call (reply_to (world_in queue.domains) (answers log queue) e.client e.call) ≡ None
      → IsCurrent (log ++ e ∷ []) marks' queue
  quiet unraised marks' unmounted none nothing unspent same unopened =
      pushed unraised queue marks' (unsent queue none was.sound) refl (versions-same queue.domains)
      (sym (append-nil queue.outcomes) ∙ ap (λ (os : List Outcome). queue.outcomes ++ os) (sym nothing))
      (λ k. same k ∙ sym (or_false (mark_at marks k)) ∙ ap (λ b. mark_at marks k || b) (sym (unspent k)))
      (none_more (length queue.failures) ∙ ap (λ (o : Option ℕ). length queue.failures + length (option_to_list o)) (sym unopened))
      (still_live queue unmounted (λ n. refl))

-- ---- a submission more

module _ (ss : List Sent) (queue : PipelineView) (sound : IsSound ss queue) (s : Submission) (stands : Stands ss queue s) (number : s.receipt ≡ queue.gone + length queue.waiting + 1) where
  abbrev longer : PipelineView
  longer = record { domains = queue.domains; gone = queue.gone; waiting = queue.waiting ++ s ∷ []; outcomes = queue.outcomes; failures = queue.failures }

  abbrev all : List Sent
  all = ss ++ sent_of s ∷ []

  commits-longer : (n : ℕ) → commits_in all longer n ≡ commits_in ss queue n
  commits-longer n = ap (map (λ (x : Sent). x.ops)) (done-submit n ss queue.outcomes (sent_of s) sound.within)

  chains-longer : (n : ℕ) → chains_in all longer n ≡ chains_in ss queue n
  chains-longer n = ap (map (λ (x : Sent). x.base.chain)) (done-submit n ss queue.outcomes (sent_of s) sound.within)

  receipts-longer : (n : ℕ) → receipts_in all longer n ≡ receipts_in ss queue n
  receipts-longer n = ap (λ (rs : List ℕ). 0 ∷ rs) (receipts-submit 1 n ss queue.outcomes (sent_of s) sound.within)

  stands-longer : (t : Submission) → Stands ss queue t → Stands all longer t
  stands-longer t was = record {
    domain = was.domain;
    base = subst (λ (cs : List (List Op)). t.base_commit ≤ length cs) (sym (commits-longer t.domain)) was.base;
    chain = was.chain;
    seen = was.seen;
  }

  pub sound-longer : IsSound (ss ++ sent_of s ∷ []) longer
  sound-longer = record {
    some = sound.some;
    within = omega (arith, sound.within, length-append ss (sent_of s ∷ []));
    behind = sound.behind;
    domains = λ n d at. let had = sound.domains n d at in record { number = had.number; commits = had.commits ∙ sym (commits-longer n); chains = had.chains ∙ sym (chains-longer n); receipts = had.receipts ∙ sym (receipts-longer n) };
    waiting =
        map-append sent_of queue.waiting (s ∷ []) ∙ ap (λ (xs : List Sent). xs ++ sent_of s ∷ []) sound.waiting
        ∙ sym (drop-append-le queue.gone ss (sent_of s ∷ []) (omega (arith, sound.behind, sound.within)));
    standing = λ i t at. elim (last_or_before queue.waiting s t i at) [
      | inl old ↦ stands-longer t (sound.standing i t old)
      | inr w ↦ stands-longer t (subst (Stands ss queue) w.1 stands)
    ];
    numbers = λ i t at. elim (last_or_before queue.waiting s t i at) [
      | inl old ↦ sound.numbers i t old
      | inr w ↦ ap (λ (x : Submission). x.receipt) (sym w.1) ∙ number ∙ ap (λ k. queue.gone + k + 1) (sym w.0)
    ];
    failures = λ k. sound.failures k ∙ sym (failing-submit 1 (Some k) ss queue.outcomes (sent_of s) sound.within);
  }

-- how many submissions and outcomes there are
pub length-submissions : (log : List Entry) (marks : List Bool) (queue : PipelineView) → IsCurrent log marks queue → queue.gone + length queue.waiting ≡ length (sents (answers log queue))
length-submissions log marks queue was = count_is (sents (answers log queue)) queue was.sound

-- ---- over other domains

-- the domain with what a call on domains may change from the other
abbrev pub as_stored : DomainView → DomainView → DomainView
as_stored d e = record d { live = e.live; table = e.table; version = e.version; since = e.since }

-- as many domains, which may differ only in `live`, `table`, `version` and `since`
pub sound_over : (ss : List Sent) (queue : PipelineView) (ds : List DomainView) → length ds ≡ length queue.domains
    → ((n : ℕ) (e : DomainView) → slice_get ds n ≡ Some e → (d : DomainView) × (slice_get queue.domains n ≡ Some d) × (e ≡ as_stored d e))
    → IsSound ss queue → IsSound ss (record { domains = ds; gone = queue.gone; waiting = queue.waiting; outcomes = queue.outcomes; failures = queue.failures })
sound_over ss queue ds long at sound = record {
  some = omega (arith, sound.some, long);
  within = sound.within;
  behind = sound.behind;
  domains = λ n e here. (
      let (d, was, same) = at n e here in
      let had = sound.domains n d was in
      record {
        number = ap (λ (x : DomainView). x.number) same ∙ had.number;
        commits = ap (λ (x : DomainView). x.ops) same ∙ had.commits;
        chains = ap (λ (x : DomainView). x.chains) same ∙ had.chains;
        receipts = ap (λ (x : DomainView). x.receipts) same ∙ had.receipts;
      }
      );
  waiting = sound.waiting;
  standing = λ k s here. let had = sound.standing k s here in record { domain = omega (arith, had.domain, long); base = had.base; chain = had.chain; seen = had.seen };
  numbers = sound.numbers;
  failures = sound.failures;
}
