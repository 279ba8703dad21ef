-- An upgrade: what is kept stays the log's, and the answer is the log's.
use Rattle.std.proofs.Common.{◌≡◌, ℕ, zero, suc, ◌+◌, ◌-◌, ◌<◌, ◌≤◌, Bool, true, false, not, List, [], ◌∷◌, ◌++◌, length, map, get_or, set, Option, None, Some, Result, Ok, Err, refl, ap, sym, ◌∙◌, subst, arith, append-nil, if◌then◌else◌, nat_eq, inl, inr}
use Rattle.std.specs.Prelude.{slice_get}
use Rattle.std.specs.Option.{option_map, option_or}
use Rattle.std.specs.declared.alloc.Global.{Global}
use Rattle.std.specs.declared.sync.Arc.{Arc}
use Rattle.std.proofs.lemmas.Bool.Decides.{nat_tests}
use Rattle.std.proofs.lemmas.List.{length-map}
use Rattle.std.proofs.lemmas.List.Elements.{All-set}
use Rattle.std.proofs.lemmas.Option.{none-some, same_Some}
use Rattle.sal_types.specs.declared.value.Store.{Store}
use Rattle.sal_types.specs.declared.value.Store.TheVariants.{Config, Oper}
use Rattle.sal_types.specs.declared.row.Row.{Row}
use Rattle.sal_rows.specs.declared.outcome.Breach.{Breach}
use Rattle.sal_rows.specs.declared.outcome.CallFault.{CallFault}
use Rattle.sal_rows.specs.declared.outcome.CallFault.TheVariants.{UpgradeBreach, WrongVersion}
use Rattle.sal_schema.specs.declared.table.SchemaTable.{SchemaTable}
use Rattle.sal_rules.specs.Breaches.{breach}
use Rattle.sal_graft.specs.Kept.{AreKept, chains_of, opening_in, ops_of}
use Rattle.sal_graft.proofs.KeptLemmas.{length-ops_of}
use Rattle.sal_commit.specs.declared.domain.Domain.{Domain as Stored}
use Rattle.sal_commit.specs.declared.fault.DomainFault.{DomainFault}
use Rattle.sal_commit.specs.declared.fault.DomainFault.TheVariants.{Broken, NoMemory as Full}
use Rattle.sal_commit.specs.Opening.{fault_over}
use Rattle.sal_commit.specs.Stamps.{receipts_of}
use Rattle.sal_commit.specs.Versions.{IsUpgradeFault, Upgrades, newest_in, tables_of, upgrade_fault, version_in}
use Rattle.sal_history.specs.declared.call.Call.{Call}
use Rattle.sal_history.specs.declared.call.Call.TheVariants.{Upgrade}
use Rattle.sal_history.specs.declared.call.Entry.{Entry}
use Rattle.sal_history.specs.declared.reply.Reply.TheVariants.{Accepted, Refused}
use Rattle.sal_history.specs.World as world
use Rattle.sal_history.specs.World.{table_of}
use Rattle.sal_history.specs.History.{Answered, entries_of, fault_if, history, refused_or, reply_to, sents, trees_of, upgrade_refusal}
use Rattle.sal_history.specs.Submissions.{Sent}
use Rattle.sal_history.specs.Versions.{broken_by, schema_version, tables_now, upgraded}
use Rattle.sal_history.proofs.Versions.{IsGoodUpgrade, good-upgrade, one-table, schema_version-next, table-in}
use Rattle.sal_hub.specs.declared.pipeline.Pipeline.{Pipeline}
use Rattle.sal_hub.specs.Answers.{Fails, Made}
use Rattle.sal_hub.specs.Current.{IsCurrent, IsKept, answers, known_of, number_of}
use Rattle.sal_hub.specs.HubHistory.{HubHistory}
use Rattle.sal_hub.specs.Journals.{Noted, jotted, mark_at}
use Rattle.sal_hub.specs.PipelineView.{AllKept, DomainView, IsSound, PipelineView, is_live_in, queue_of, opened_as, shown, table_in, version_of, world_in}
use Rattle.sal_commit.specs.declared.versions.NextVersion.{NextVersion}
use Rattle.sal_hub.specs.Upgrades.{IsReady, refusal_of, set_version, upgrades_of, with_version}
use Rattle.sal_hub.proofs.Beginning.{made_now, quiet_kept}
use Rattle.sal_hub.proofs.Deciding.{world-at}
use Rattle.sal_hub.proofs.Histories.{history-push, now_of}
use Rattle.sal_hub.proofs.Keeping.{as_stored, none_more, or_false, pushed_as, sound_over, still_live, unsent}
use Rattle.sal_hub.proofs.Serving.{shown_at, tip_is}
use Rattle.sal_hub.proofs.Versioned.{version-present}

-- ---- why a domain is not upgraded

-- a fault of the trees, as that of a call
abbrev call_fault : DomainFault → CallFault
call_fault (Broken s b) = UpgradeBreach s b.path b.rule
call_fault Full = WrongVersion 0

broken-as : (config oper : Option Breach)
    → option_or (option_map (λ (b : Breach). UpgradeBreach Config b.path b.rule) config) (option_map (λ (b : Breach). UpgradeBreach Oper b.path b.rule) oper)
    ≡ option_map call_fault (option_or (option_map (Broken Config) config) (option_map (Broken Oper) oper))
broken-as None None = refl
broken-as None (Some b) = refl
broken-as (Some b) oper = refl

broken_is : (table : SchemaTable) (trees : Store → List Row) → broken_by table trees ≡ option_map call_fault (fault_over table trees)
broken_is table trees = broken-as (breach table Config (trees Config)) (breach table Oper (trees Oper))

module _ (d : Stored) (version : ℕ) (low : 1 ≤ version) (own : nat_eq d.version (version - 1) ≡ true) where
  by_trees : refusal_of d version ≡ option_map call_fault (upgrade_fault d version)
  by_trees =
      let next : nat_eq (d.version + 1) version ≡ true = grind (arith, nat_tests) in
      ap (λ b. option_or (fault_if (not b) (WrongVersion d.version)) (broken_by (version_in d version) (newest_in d))) next ∙ broken_is (version_in d version) (newest_in d)

  pub none_refused : upgrade_fault d version ≡ None → refusal_of d version ≡ None
  none_refused none = by_trees ∙ ap (option_map call_fault) none

  pub breach_refused : (fault : DomainFault) (s : Store) (b : Breach) → fault ≡ Broken s b → IsUpgradeFault d version fault → refusal_of d version ≡ Some (UpgradeBreach s b.path b.rule)
  breach_refused fault s b is (inl full) = let no : Broken s b ≡ Full = sym is ∙ full in cc
  breach_refused fault s b is (inr e) = by_trees ∙ ap (option_map call_fault) (e ∙ ap Some is)

-- ready and refused upgrades
pub ready_next : (d : Stored) (version : ℕ) (r : Result NextVersion CallFault) (next : NextVersion) → r ≡ Ok next → IsReady d version r
    → (refusal_of d version ≡ None) × (upgrade_fault d version ≡ None) × (next.number ≡ version) × (next.schema.value ≡ version_in d version)
ready_next d version r next is ready = subst (IsReady d version) is ready

pub ready_refused : (d : Stored) (version : ℕ) (r : Result NextVersion CallFault) (fault : CallFault) → r ≡ Err fault → IsReady d version r → refusal_of d version ≡ Some fault
ready_refused d version r fault is ready = subst (IsReady d version) is ready

-- ---- the first domain at the version

since_is : (d : Stored) → AreKept d.commits.items → length d.commits.items - 1 ≡ length (ops_of d.commits.items)
since_is d are = sym (length-ops_of d.commits.items are.opened)

upgraded-shown : (d d' : Stored) (version : ℕ) → AreKept d.commits.items → Upgrades d version d'
    → shown d' ≡ record (shown d) { table = version_in d version; version = version; since = length (ops_of d.commits.items) }
upgraded-shown d d' version are up = λ i. record {
  number = up.number i;
  live = up.live i;
  table = up.schema i;
  first = (up.first i).value;
  upgrades = tables_of (up.upgrades i).items;
  version = up.version i;
  since = (up.since ∙ since_is d are) i;
  rules = up.rules i;
  opening = opening_in (up.commits i);
  ops = ops_of (up.commits i);
  chains = chains_of (up.commits i);
  receipts = receipts_of (up.commits i);
}

-- as the code writes it
first-shown : (ds : List Stored) (d d' : Stored) (version : ℕ) → 0 < length ds → d ≡ get_or ds 0 d → AreKept d.commits.items → Upgrades d version d' → map shown (set ds 0 d') ≡ with_version (map shown ds) version
first-shown [] d d' version some is are up = absurd (omega (arith, some))
first-shown (x ∷ ds) d d' version some is are up =
    ap (λ (e : DomainView). e ∷ map shown ds)
    (upgraded-shown d d' version are up
    ∙ (λ i. let e : DomainView = record (shown (is i)) { table = version_in (is i) version; version = version; since = length (ops_of (is i).commits.items) } in e))

pub line_upgraded : (p : Pipeline) (d d' : Stored) (version : ℕ) → 0 < length p.domains.items → d ≡ get_or p.domains.items 0 d → AreKept d.commits.items → Upgrades d version d'
    → ◌≡◌ {A = PipelineView} (record { domains = map shown (set p.domains.items 0 d'); gone = p.gone; waiting = p.waiting.items; outcomes = p.outcomes.items; failures = p.failures.items }) (set_version (queue_of p) version)
line_upgraded p d d' version some is are up = λ j. record { domains = first-shown p.domains.items d d' version some is are up j; gone = p.gone; waiting = p.waiting.items; outcomes = p.outcomes.items; failures = p.failures.items }

pub kept_upgraded : (ds : List Stored) (d d' : Stored) (version : ℕ) → AllKept ds → AreKept d.commits.items → Upgrades d version d' → AllKept (set ds 0 d')
kept_upgraded ds d d' version all are up = All-set (λ (x : Stored). AreKept x.commits.items) ds 0 d' (subst AreKept (sym up.commits) are) all

-- the rest is unchanged
world-upgraded : (ds : List DomainView) (v : ℕ) → world_in (with_version ds v) ≡ world_in ds
world-upgraded [] v = refl
world-upgraded (d ∷ ds) v = refl

live-upgraded : (ds : List DomainView) (v n : ℕ) → is_live_in (with_version ds v) n ≡ is_live_in ds n
live-upgraded [] v n = refl
live-upgraded (d ∷ ds) v zero = refl
live-upgraded (d ∷ ds) v (suc n) = refl

length-upgraded : (ds : List DomainView) (v : ℕ) → length (with_version ds v) ≡ length ds
length-upgraded [] v = refl
length-upgraded (d ∷ ds) v = refl

at-upgraded : (ds : List DomainView) (v n : ℕ) (e : DomainView) → slice_get (with_version ds v) n ≡ Some e → (d : DomainView) × (slice_get ds n ≡ Some d) × (e ≡ as_stored d e)
at-upgraded [] v n e at = absurd (none-some e at)
at-upgraded (d ∷ ds) v zero e at = (
  d,
  refl,
  (let here : DomainView = record d { table = world.version_from d.first d.upgrades v; version = v; since = length d.ops } in
      let same : here ≡ e = same_Some here e at in
      sym same ∙ ap (as_stored d) same),
)
at-upgraded (d ∷ ds) v (suc n) e at = (e, at, refl)

sound-upgraded : (ss : List Sent) (queue : PipelineView) (v : ℕ) → IsSound ss queue → IsSound ss (set_version queue v)
sound-upgraded ss queue v = sound_over ss queue (with_version queue.domains v) (length-upgraded queue.domains v) (at-upgraded queue.domains v)

-- ---- the call

-- how many upgrades the first domain has
pub high_enough : (ds : List Stored) (d : Stored) (version : ℕ) → 0 < length ds → d ≡ get_or ds 0 d → version ≤ upgrades_of (world_in (map shown ds)) → version ≤ length d.upgrades.items
high_enough [] d version some is high = absurd (omega (arith, some))
high_enough (x ∷ ds) d version some is high =
    let same : length d.upgrades.items ≡ length x.upgrades.items = ap (λ (y : Stored). length y.upgrades.items) is in
    omega (arith, high, same, length-map x.upgrades.items (λ (v : Arc SchemaTable Global). v.value))

pub own_number : (v : ℕ) → number_of v 0 ≡ v
own_number v = let own : nat_eq 0 0 ≡ true = grind (arith, nat_tests) in ap (λ b. if b then v else 0) own

module _ (journal : Noted) (p : Pipeline) (is : IsKept journal p) (d : Stored) (version : ℕ) (some : 0 < length p.domains.items) (at : d ≡ get_or p.domains.items 0 d) where
  abbrev w : List world.Domain
  w = world_in (queue_of p).domains

  abbrev answered : List Answered
  answered = answers journal.log (queue_of p)

  here : slice_get (map shown p.domains.items) 0 ≡ Some (shown d)
  here = shown_at p.domains.items 0 d some at

  pub refusal_is : refusal_of d version ≡ upgrade_refusal (world_in (queue_of p).domains) (answers journal.log (queue_of p)) version
  refusal_is =
      let number : d.version ≡ schema_version answered = version-present journal p is 0 d here ∙ own_number (schema_version answered) in
      let table : version_in d version ≡ table_of w version 0 = sym (table-in w 0 version (opened_as (shown d)) (world-at (queue_of p).domains 0 (shown d) here)) in
      λ i. option_or (fault_if (not (nat_eq (number i + 1) version)) (WrongVersion (number i))) (broken_by (table i) (λ s. tip_is journal p is 0 d some at s i))

module _ (journal journal' : Noted) (p : Pipeline) (is : IsKept journal p) (client version : ℕ) (log : journal'.log ≡ jotted journal.log client (Upgrade version)) where
  abbrev world_now : List world.Domain
  world_now = world_in (queue_of p).domains

  abbrev so_far : List Answered
  so_far = answers journal.log (queue_of p)

  abbrev entry : Entry
  entry = record { client = client; number = entries_of journal.log client; call = Upgrade version }

  -- ---- refused

  module _ (fault : CallFault) (refused : upgrade_refusal (world_in (queue_of p).domains) (answers journal.log (queue_of p)) version ≡ Some fault) where
    refused_reply : reply_to world_now so_far client (Upgrade version) ≡ Refused fault
    refused_reply = ap (λ (o : Option CallFault). refused_or o Accepted) refused

    pub refused_kept : ((k : ℕ) → mark_at journal'.marks k ≡ mark_at journal.marks k) → IsKept journal' p
    refused_kept marks = quiet_kept journal journal' p is client (Upgrade version) log (ap (upgraded (Upgrade version)) refused_reply) refl refl refl (λ k. refl) refl marks

    fails_of : (wrong : Bool) (v : ℕ) (config oper : Option Breach) (old new : HubHistory) (e : Entry) (f : CallFault)
        → option_or (fault_if wrong (WrongVersion v)) (option_or (option_map (λ (b : Breach). UpgradeBreach Config b.path b.rule) config) (option_map (λ (b : Breach). UpgradeBreach Oper b.path b.rule) oper)) ≡ Some f
        → Made old new e (Refused f) → Fails old new e f
    fails_of true v config oper old new e f is made = let same : WrongVersion v ≡ f = same_Some (WrongVersion v) f is in subst (Fails old new e) same (subst (λ g. Made old new e (Refused g)) (sym same) made)
    fails_of false v (Some b) oper old new e f is made = let same : UpgradeBreach Config b.path b.rule ≡ f = same_Some (UpgradeBreach Config b.path b.rule) f is in subst (Fails old new e) same (subst (λ g. Made old new e (Refused g)) (sym same) made)
    fails_of false v None (Some b) old new e f is made = let same : UpgradeBreach Oper b.path b.rule ≡ f = same_Some (UpgradeBreach Oper b.path b.rule) f is in subst (Fails old new e) same (subst (λ g. Made old new e (Refused g)) (sym same) made)
    fails_of false v None None old new e f is made = absurd (none-some f is)

    pub refused_fails : length journal.log < 1000000 → Fails (known_of journal p) (known_of journal' p) (record { client = client; number = entries_of journal.log client; call = Upgrade version }) fault
    refused_fails room =
        fails_of (not (nat_eq (schema_version so_far + 1) version)) (schema_version so_far) (breach (table_of world_now version 0) Config (trees_of world_now so_far 0 Config)) (breach (table_of world_now version 0) Oper (trees_of world_now so_far 0 Oper))
        (known_of journal p) (known_of journal' p) entry fault refused (made_now journal journal' p is client (Upgrade version) log (Refused fault) room refused_reply)

  -- ---- accepted

  module _ (p' : Pipeline) (queue : queue_of p' ≡ set_version (queue_of p) version) (allowed : upgrade_refusal (world_in (queue_of p).domains) (answers journal.log (queue_of p)) version ≡ None) where
    accepted : reply_to world_now so_far client (Upgrade version) ≡ Accepted
    accepted = ap (λ (o : Option CallFault). refused_or o Accepted) allowed

    good : upgraded (Upgrade version) (reply_to world_now so_far client (Upgrade version)) ≡ true
    good = ap (upgraded (Upgrade version)) accepted

    number : Call → ℕ
    number (Upgrade v) = v
    number call = 0

    -- the version after the entry
    next : schema_version (history world_now (journal.log ++ entry ∷ [])) ≡ version
    unfolding number
    next =
        let it : IsGoodUpgrade world_now so_far (Upgrade version) = good-upgrade world_now so_far client (Upgrade version) good in
        ap schema_version (history-push world_now journal.log entry) ∙ schema_version-next so_far (now_of world_now so_far entry) good ∙ it.next ∙ sym (ap number it.call_is)

    abbrev queue' : PipelineView
    queue' = set_version (queue_of p) version

    same_world : world_in queue'.domains ≡ world_now
    same_world = world-upgraded (queue_of p).domains version

    tables : (n : ℕ) → table_in queue'.domains n ≡ tables_now world_now (history world_now (journal.log ++ entry ∷ [])) n
    tables n = by (queue_of p).domains is.current.tables is.current.only n ∙ ap (λ v. table_of world_now v n) (sym next)
      where
        by : (ds : List DomainView) → ((k : ℕ) → table_in ds k ≡ table_of (world_in ds) (schema_version so_far) k) → world.OneIsUpgraded (world_in ds) → (n : ℕ) → table_in (with_version ds version) n ≡ table_of (world_in ds) version n
        by [] was only n = refl
        by (x ∷ ds) was only zero = refl
        by (x ∷ ds) was only (suc n) = was (suc n) ∙ one-table (world_in (x ∷ ds)) (suc n) (schema_version so_far) version (λ e at_e. only n e at_e)

    versions : (n : ℕ) → n < length (queue_of p).domains → version_of queue'.domains n ≡ number_of (schema_version (history world_now (journal.log ++ entry ∷ []))) n
    versions n low = by (queue_of p).domains is.current.versions n low ∙ ap (λ v. number_of v n) (sym next)
      where
        later : (v u n : ℕ) → number_of v (suc n) ≡ number_of u (suc n)
        later v u n = let other : nat_eq (suc n) 0 ≡ false = grind (arith, nat_tests) in ap (λ b. if b then v else 0) other ∙ sym (ap (λ b. if b then u else 0) other)

        by : (ds : List DomainView) → ((k : ℕ) → k < length ds → version_of ds k ≡ number_of (schema_version so_far) k) → (n : ℕ) → n < length ds → version_of (with_version ds version) n ≡ number_of version n
        by [] was n low = absurd (omega (arith, low))
        by (x ∷ ds) was zero low = sym (own_number version)
        by (x ∷ ds) was (suc n) low = was (suc n) low ∙ later (schema_version so_far) version n

    current_now : ((k : ℕ) → mark_at journal'.marks k ≡ mark_at journal.marks k) → IsCurrent (journal.log ++ entry ∷ []) journal'.marks queue'
    current_now marks =
        pushed_as journal.log journal.marks (queue_of p) is.current entry queue' journal'.marks
        (unsent journal.log journal.marks (queue_of p) is.current entry queue' refl (sound-upgraded (sents so_far) (queue_of p) version is.current.sound)) same_world tables versions
        (sym (append-nil (queue_of p).outcomes)) (λ k. marks k ∙ sym (or_false (mark_at journal.marks k))) (none_more (length (queue_of p).failures))
        (still_live journal.log journal.marks (queue_of p) is.current entry queue' refl (λ n. live-upgraded (queue_of p).domains version n))

    pub upgraded_kept : AllKept p'.domains.items → ((k : ℕ) → mark_at journal'.marks k ≡ mark_at journal.marks k) → IsKept journal' p'
    upgraded_kept kept marks = record {
      kept = kept;
      current = subst (λ (l : List Entry). IsCurrent l journal'.marks (queue_of p')) (sym log) (subst (IsCurrent (journal.log ++ entry ∷ []) journal'.marks) (sym queue) (current_now marks));
      let_go = ap (λ (l : PipelineView). l.gone) queue ∙ is.let_go ∙ ap (λ (l : PipelineView). length l.outcomes) (sym queue);
    }

    pub upgraded_made : length journal.log < 1000000 → Made (known_of journal p) (known_of journal' p') (record { client = client; number = entries_of journal.log client; call = Upgrade version }) Accepted
    upgraded_made room = record {
      room = room;
      log = λ i. let known : HubHistory = record { world = (ap (λ (l : PipelineView). world_in l.domains) queue ∙ same_world) i; log = log i } in known;
      reply = accepted;
    }
