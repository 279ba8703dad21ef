-- Calls that decide nothing, and transactions that begin: the invariants hold, and the transaction is the one of the log.
use Rattle.std.proofs.Common.{◌≡◌, ℕ, ◌<◌, true, false, List, [], ◌∷◌, length, map, None, Some, ap, sym, ◌∙◌, subst, arith, length-append, if◌then◌else◌, refl}
use Rattle.std.specs.Prelude.{slice_get}
use Rattle.sal_types.specs.declared.value.Store.{Store}
use Rattle.sal_rows.specs.declared.outcome.Mode.{Mode}
use Rattle.sal_rows.specs.declared.outcome.CallFault.TheVariants.{NoDomain}
use Rattle.sal_rows.specs.Commits.{tree_after}
use Rattle.sal_tree.specs.declared.commit.Pair.{Pair}
use Rattle.sal_tx.specs.declared.begun.Begun.{Begun as Token}
use Rattle.sal_tx.specs.declared.tx.Tx.{Tx}
use Rattle.sal_tx.specs.Views.{rows_in}
use Rattle.sal_graft.specs.Kept.{ops_of, rows_in as kept_rows}
use Rattle.sal_commit.specs.declared.domain.Domain.{Domain}
use Rattle.sal_history.specs.declared.call.Call.{Call}
use Rattle.sal_history.specs.declared.call.Call.TheVariants.{Begin}
use Rattle.sal_history.specs.declared.call.Entry.{Entry}
use Rattle.sal_history.specs.declared.reply.Reply.{Reply}
use Rattle.sal_history.specs.declared.reply.Reply.TheVariants.{Begun, Refused}
use Rattle.sal_history.specs.World as world
use Rattle.sal_history.specs.History.{Answered, began_at, began_by, commits, decided_by, entries_of, history, opened_chain, reply_to, sents, sent_by, spends, trees_of}
use Rattle.sal_history.specs.Services.{mount_call}
use Rattle.sal_history.specs.Versions.{schema_version, upgraded, version_at}
use Rattle.sal_history.proofs.Versions.{version_at-now, version_at-stays}
use Rattle.sal_history.specs.Submissions.{Base}
use Rattle.sal_hub.specs.declared.pipeline.Pipeline.{Pipeline}
use Rattle.sal_hub.specs.declared.start.Footing.{Footing}
use Rattle.sal_hub.specs.Answers.{Made}
use Rattle.sal_hub.specs.Current.{IsCurrent, IsKept, answers, known_of, number_of}
use Rattle.sal_hub.specs.Journals.{Noted, jotted, mark_at}
use Rattle.sal_hub.specs.PipelineView.{IsStored, is_live_in, queue_of, shown, world_in}
use Rattle.sal_hub.specs.Starts.{IsNewest, Starts}
use Rattle.sal_hub.specs.Begins.{mode_at, mode_by, on_at, on_by}
use Rattle.sal_hub.specs.Tokens.{IsBegun, IsToken, base_of, begun_of, mode_of}
use Rattle.sal_hub.proofs.Deciding.{opening-at}
use Rattle.sal_hub.proofs.Histories.{found-last, history-push, length-history, now_of}
use Rattle.sal_hub.proofs.Keeping.{commits-current, quiet}
use Rattle.sal_hub.proofs.Starting.{same_rows}
use Rattle.sal_hub.proofs.Versioned.{schema-present, version-present}

-- ---- any call

module _ (journal journal' : Noted) (p : Pipeline) (is : IsKept journal p) (client : ℕ) (call : Call) (log : journal'.log ≡ jotted journal.log client call) where
  abbrev w : List world.Domain
  w = world_in (queue_of p).domains

  abbrev answered : List Answered
  answered = answers journal.log (queue_of p)

  abbrev entry : Entry
  entry = record { client = client; number = entries_of journal.log client; call = call }

  -- a call that is not on mounts, and submits, decides, spends and opens nothing
  pub quiet_kept : upgraded call (reply_to (world_in (queue_of p).domains) (answers journal.log (queue_of p)) client call) ≡ false → mount_call call ≡ None → sent_by (answers journal.log (queue_of p)) call (reply_to (world_in (queue_of p).domains) (answers journal.log (queue_of p)) client call) ≡ None
      → decided_by (world_in (queue_of p).domains) (answers journal.log (queue_of p)) call ≡ []
      → ((k : ℕ) → spends call (reply_to (world_in (queue_of p).domains) (answers journal.log (queue_of p)) client call) k ≡ false)
      → opened_chain call (reply_to (world_in (queue_of p).domains) (answers journal.log (queue_of p)) client call) ≡ None
      → ((k : ℕ) → mark_at journal'.marks k ≡ mark_at journal.marks k) → IsKept journal' p
  quiet_kept unraised unmounted none nothing unspent unopened marks = record {
    kept = is.kept;
    current = subst (λ (l : List Entry). IsCurrent l journal'.marks (queue_of p)) (sym log) (quiet journal.log journal.marks (queue_of p) is.current entry unraised journal'.marks unmounted none nothing unspent marks unopened);
    let_go = is.let_go;
  }

  pub made_now : (r : Reply) → length journal.log < 1000000 → reply_to (world_in (queue_of p).domains) (answers journal.log (queue_of p)) client call ≡ r → Made (known_of journal p) (known_of journal' p) (record { client = client; number = entries_of journal.log client; call = call }) r
  made_now r room reply = record { room = room; log = λ i. record { world = w; log = log i }; reply = reply }

  -- the transaction that it begins
  pub token_now : (begun : Token) (under : Mode) (base : Pair) → begun.place ≡ length journal.log
      → began_by (world_in (queue_of p).domains) (answers journal.log (queue_of p)) call (reply_to (world_in (queue_of p).domains) (answers journal.log (queue_of p)) client call) ≡ Some (record { domain = begun.domain; commit = begun.base_commit; chain = begun.chain; trees = rows_in base })
      → begun.schema.value ≡ world.table_of (world_in (queue_of p).domains) begun.version begun.domain → begun.version ≡ number_of (schema_version (answers journal.log (queue_of p))) begun.domain
      → mode_by call ≡ Some under → on_by (reply_to (world_in (queue_of p).domains) (answers journal.log (queue_of p)) client call) ≡ Some begun.on → IsBegun (known_of journal' p) begun under base
  token_now begun under base place began schema version mode on = record {
    before = omega (arith, place, ap length log, length-append journal.log (entry ∷ []));
    began = (λ i. began_at (history w (log i)) (place i)) ∙ found-last w (λ (a : Answered). a.began) journal.log entry ∙ began;
    schema = schema;
    version = version ∙ ap (λ v. number_of v begun.domain) (sym version_there);
    mode = (λ i. mode_at (history w (log i)) (place i)) ∙ found-last w (λ (a : Answered). mode_by a.entry.call) journal.log entry ∙ mode;
    on = (λ i. on_at (history w (log i)) (place i)) ∙ found-last w (λ (a : Answered). on_by a.reply) journal.log entry ∙ on;
  }
    where
      -- the version at its place is the present one
      version_there : version_at (history w journal'.log) begun.place ≡ schema_version answered
      version_there =
          (λ i. version_at (history w (log i)) (place i))
          ∙ (λ i. version_at (history-push w journal.log entry i) (sym (length-history w journal.log) i))
          ∙ version_at-stays answered (now_of w answered entry) (length answered) (omega arith) ∙ version_at-now answered

-- ---- the newest commit of a domain

module _ (journal : Noted) (p : Pipeline) (is : IsKept journal p) (domain : ℕ) (d : Domain) (at : slice_get (map shown p.domains.items) domain ≡ Some (shown d)) (footing : Footing) (newest : IsNewest d footing) where
  abbrev here : List world.Domain
  here = world_in (queue_of p).domains

  abbrev before : List Answered
  before = answers journal.log (queue_of p)

  stored : IsStored (sents before) (queue_of p) domain (shown d)
  stored = is.current.sound.domains domain (shown d) at

  the_commits : ops_of d.commits.items ≡ commits before domain
  the_commits = stored.commits ∙ commits-current journal.log journal.marks (queue_of p) domain is.current

  pub newest_commit : footing.commit ≡ length (commits (answers journal.log (queue_of p)) domain)
  newest_commit = newest.commit ∙ ap length the_commits

  pub newest_trees : (s : Store) → kept_rows footing.trees s ≡ trees_of (world_in (queue_of p).domains) (answers journal.log (queue_of p)) domain s
  newest_trees s = newest.trees s ∙ (λ i. tree_after s (sym (opening-at (queue_of p).domains domain (shown d) s at) i) (the_commits i))

  pub number_is : d.number ≡ domain
  number_is = stored.number

-- ---- begin

module _ (journal journal' : Noted) (p : Pipeline) (is : IsKept journal p) (client domain : ℕ) (mode : Mode) (log : journal'.log ≡ jotted journal.log client (Begin domain mode)) where
  pub begin_kept : ((k : ℕ) → mark_at journal'.marks k ≡ mark_at journal.marks k) → IsKept journal' p
  begin_kept marks = quiet_kept journal journal' p is client (Begin domain mode) log refl refl refl refl (λ k. refl) refl marks

  pub begin_refused : is_live_in (queue_of p).domains domain ≡ false → reply_to (world_in (queue_of p).domains) (answers journal.log (queue_of p)) client (Begin domain mode) ≡ Refused (NoDomain domain)
  begin_refused dead = ap (λ b. if b then Begun (length (commits (answers journal.log (queue_of p)) domain)) None else Refused (NoDomain domain)) (sym (is.current.live domain) ∙ dead)

  module _ (d : Domain) (live : is_live_in (queue_of p).domains domain ≡ true) (at : slice_get (map shown p.domains.items) domain ≡ Some (shown d)) (tx : Tx) (footing : Footing) (newest : IsNewest d footing) (starts : Starts d footing None mode (length journal.log) tx) where
    abbrev there : List world.Domain
    there = world_in (queue_of p).domains

    abbrev so_far : List Answered
    so_far = answers journal.log (queue_of p)

    number : (begun_of tx).domain ≡ domain
    number = starts.domain ∙ number_is journal p is domain d at footing newest

    commit : (begun_of tx).base_commit ≡ length (commits so_far domain)
    commit = starts.commit ∙ newest_commit journal p is domain d at footing newest

    reply_live : reply_to there so_far client (Begin domain mode) ≡ Begun (length (commits so_far domain)) None
    reply_live = ap (λ b. if b then Begun (length (commits so_far domain)) None else Refused (NoDomain domain)) (sym (is.current.live domain) ∙ live)

    trees : (s : Store) → rows_in (base_of tx) s ≡ trees_of there so_far domain s
    trees s = ap (λ (x : Pair). rows_in x s) starts.base ∙ same_rows footing.trees s ∙ newest_trees journal p is domain d at footing newest s

    pub begin_reply : reply_to (world_in (queue_of p).domains) (answers journal.log (queue_of p)) client (Begin domain mode) ≡ Begun (begun_of tx).base_commit (begun_of tx).on
    begin_reply = reply_live ∙ (λ i. Begun (sym commit i) (sym (starts.on ∙ newest.alone) i))

    pub begin_token : IsToken (known_of journal' p) tx
    begin_token =
        token_now journal journal' p is client (Begin domain mode) log (begun_of tx) (mode_of tx) (base_of tx) starts.place
        (ap (began_by there so_far (Begin domain mode)) reply_live
        ∙ (λ i. Some (let b : Base = record { domain = sym number i; commit = sym commit i; chain = sym starts.chain i; trees = λ s. sym (trees s) i } in b)))
        (starts.schema ∙ schema-present journal p is domain d at ∙ (λ i. world.table_of there (sym starts.version i) (sym number i)))
        (starts.version ∙ version-present journal p is domain d at ∙ ap (number_of (schema_version so_far)) (sym number))
        (ap Some (sym starts.mode)) (ap on_by begin_reply)
