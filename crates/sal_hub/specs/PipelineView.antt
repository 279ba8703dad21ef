-- The hub's state in addition to its log: the domains with their commits, the submissions that were not dropped, the outcomes, and which
-- chains failed.
use Rattle.std.specs.Prelude.{◌≡◌, ℕ, zero, suc, ◌+◌, ◌-◌, ◌<◌, ◌≤◌, Bool, List, [], ◌∷◌, ◌++◌, false, drop, length, map, take, Option, Some, IfSome, All, slice_get}
use Rattle.std.specs.Option.{option_map_or}
use Rattle.sal_types.specs.declared.value.Store.{Store}
use Rattle.sal_types.specs.declared.value.Store.TheVariants.{Config, Oper}
use Rattle.sal_types.specs.declared.row.Row.{Row}
use Rattle.sal_rows.specs.declared.clash.Rules.{Rules}
use Rattle.sal_rows.specs.declared.op.Op.{Op}
use Rattle.sal_rows.specs.declared.outcome.Outcome.{Outcome}
use Rattle.sal_schema.specs.declared.table.SchemaTable.{SchemaTable}
use Rattle.sal_graft.specs.Kept.{AreKept, chains_of, opening_in, ops_of, rows_in}
use Rattle.sal_tx.specs.declared.tx.Submission.{Submission}
use Rattle.sal_tx.specs.Views.{Shows}
use Rattle.sal_commit.specs.declared.domain.Domain.{Domain}
use Rattle.sal_commit.specs.Deciding.{LieBelow}
use Rattle.sal_commit.specs.Stamps.{receipts_of}
use Rattle.sal_commit.specs.Versions.{tables_of}
use Rattle.sal_history.specs.World as world
use Rattle.sal_history.specs.History.{decide_next}
use Rattle.sal_history.specs.Submissions.{Sent, done_chains, done_ops, failing}
use Rattle.sal_hub.specs.declared.pipeline.Pipeline.{Pipeline}
use Rattle.sal_hub.specs.CommitReceipts.{commit_receipts}
use Rattle.sal_hub.specs.Failures.{IsWithin, cut_failures, noted_in}

-- ---- how a contract sees it

-- a domain, by its version rules, its opening trees, and the operations, the chains and the receipts of its commits
pub record DomainView : Type 0 where
  pub number : ℕ
  pub live : Bool
  -- the present version of its schema, version 0, and those from 1 on
  pub table : SchemaTable
  pub first : SchemaTable
  pub upgrades : List SchemaTable
  -- the number of the present version, and the newest commit at the last upgrade
  pub version : ℕ
  pub since : ℕ
  pub rules : Rules
  pub opening : Store → List Row
  pub ops : List (List Op)
  pub chains : List (Option ℕ)
  pub receipts : List ℕ

pub record PipelineView : Type 0 where
  pub domains : List DomainView
  -- the number of dropped submissions, those of the first receipts
  pub gone : ℕ
  -- those after them
  pub waiting : List Submission
  pub outcomes : List Outcome
  -- for each chain the receipt at which it failed
  pub failures : List (Option ℕ)

abbrev pub shown : Domain → DomainView
shown d =
    record {
      number = d.number;
      live = d.live;
      table = d.schema.value;
      first = d.first.value;
      upgrades = tables_of d.upgrades.items;
      version = d.version;
      since = d.since;
      rules = d.rules;
      opening = opening_in d.commits.items;
      ops = ops_of d.commits.items;
      chains = chains_of d.commits.items;
      receipts = receipts_of d.commits.items;
    }

abbrev pub queue_of : Pipeline → PipelineView
queue_of p = record { domains = map shown p.domains.items; gone = p.gone; waiting = p.waiting.items; outcomes = p.outcomes.items; failures = p.failures.items }

-- the domain of this number is live, by its flag; there is none after the last
abbrev pub is_live_in : List DomainView → ℕ → Bool
is_live_in domains n = option_map_or (λ (d : DomainView). d.live) (slice_get domains n) false

-- the table of the present version of the domain of this number, without nodes if there is none
abbrev pub table_in : List DomainView → ℕ → SchemaTable
table_in domains n = option_map_or (λ (d : DomainView). d.table) (slice_get domains n) world.no_table

-- its number
abbrev pub version_of : List DomainView → ℕ → ℕ
version_of domains n = option_map_or (λ (d : DomainView). d.version) (slice_get domains n) 0

-- each domain has the present version that it had
pub record KeepVersions (old new : List DomainView) : Type 0 where
  pub tables : (n : ℕ) → table_in new n ≡ table_in old n
  pub versions : (n : ℕ) → version_of new n ≡ version_of old n

-- ---- in the form of the log's definitions

abbrev pub opened_as : DomainView → world.Domain
opened_as d = record { table = d.first; upgrades = d.upgrades; opening = record { config = d.opening Config; oper = d.opening Oper }; rules = d.rules }

abbrev pub world_in : List DomainView → List world.Domain
world_in domains = map opened_as domains

abbrev pub sent_of : Submission → Sent
sent_of s = record { base = record { domain = s.domain; commit = s.base_commit; chain = s.chain; trees = rows_in s.base }; ops = s.changes }

-- the commits of a domain, by all submissions and their outcomes
abbrev pub commits_in : List Sent → PipelineView → ℕ → List (List Op)
commits_in ss queue n = done_ops n ss queue.outcomes

-- and their chains
abbrev pub chains_in : List Sent → PipelineView → ℕ → List (Option ℕ)
chains_in ss queue n = done_chains n ss queue.outcomes

-- and their receipts, that of the opening first
abbrev pub receipts_in : List Sent → PipelineView → ℕ → List ℕ
receipts_in ss queue n = commit_receipts n ss queue.outcomes

-- ---- invariants, from all submissions

-- a domain has its number, and the commits that the outcomes give, with their chains and receipts
pub record IsStored (ss : List Sent) (queue : PipelineView) (n : ℕ) (d : DomainView) : Type 0 where
  pub number : d.number ≡ n
  pub commits : d.ops ≡ commits_in ss queue n
  pub chains : d.chains ≡ chains_in ss queue n
  pub receipts : d.receipts ≡ receipts_in ss queue n

-- the rows of its operations are at or below their paths, and its view, if it was made, is its base with them applied
pub record CanBeSeen (s : Submission) : Type 0 where
  pub below : LieBelow s.changes
  pub view : IfSome s.view (Shows s.base s.changes)

-- The base of a submission is a commit of its domain, and its chain is one that was opened; its view can be made.
pub record Stands (ss : List Sent) (queue : PipelineView) (s : Submission) : Type 0 where
  pub domain : s.domain < length queue.domains
  pub base : s.base_commit ≤ length (commits_in ss queue s.domain)
  pub chain : IsWithin (length queue.failures) s.chain
  pub seen : CanBeSeen s

-- only decided submissions were dropped, and the others are kept
pub record IsSound (ss : List Sent) (queue : PipelineView) : Type 0 where
  pub some : 1 ≤ length queue.domains
  pub within : length queue.outcomes ≤ length ss
  pub behind : queue.gone ≤ length queue.outcomes
  pub domains : (n : ℕ) (d : DomainView) → slice_get queue.domains n ≡ Some d → IsStored ss queue n d
  pub waiting : map sent_of queue.waiting ≡ drop queue.gone ss
  pub standing : (i : ℕ) (s : Submission) → slice_get queue.waiting i ≡ Some s → Stands ss queue s
  pub numbers : (i : ℕ) (s : Submission) → slice_get queue.waiting i ≡ Some s → s.receipt ≡ queue.gone + i + 1
  pub failures : (chain : ℕ) → noted_in queue.failures chain ≡ failing (Some chain) ss queue.outcomes

-- the dropped submissions are not visible: some submissions exist for which it holds
abbrev pub HasSents : PipelineView → Type 0
HasSents queue = (ss : List Sent) × IsSound ss queue

-- the commits of each domain have their trees
abbrev pub AllKept : List Domain → Type 0
AllKept ds = All (λ (d : Domain). AreKept d.commits.items) ds

-- this many commits reach the last upgrade of each domain
abbrev pub Reach : List DomainView → List ℕ → Type 0
Reach ds counts = (n k : ℕ) (d : DomainView) → slice_get ds n ≡ Some d → slice_get counts n ≡ Some k → d.since ≤ k

-- ---- effects of calls

-- the domain of this number is live or not
abbrev pub with_live : List DomainView → ℕ → Bool → List DomainView
with_live [] n live = []
with_live (d ∷ ds) zero live = record d { live = live } ∷ ds
with_live (d ∷ ds) (suc n) live = d ∷ with_live ds n live

abbrev pub set_live : PipelineView → ℕ → Bool → PipelineView
set_live queue n live = record { domains = with_live queue.domains n live; gone = queue.gone; waiting = queue.waiting; outcomes = queue.outcomes; failures = queue.failures }

-- decided submissions are dropped
abbrev pub shorter : PipelineView → PipelineView
shorter queue = record { domains = queue.domains; gone = length queue.outcomes; waiting = drop (length queue.outcomes - queue.gone) queue.waiting; outcomes = queue.outcomes; failures = queue.failures }

-- the list has the old one as a prefix
abbrev pub Grows : {X : Type 0} → List X → List X → Type 0
Grows {X} old new = (more : List X) × (new ≡ old ++ more)

-- each domain is unchanged, except for commits after the earlier ones
abbrev pub HaveGrown : List DomainView → List DomainView → Type 0
HaveGrown [] [] = Unit {0}
HaveGrown [] (e ∷ es) = ⊥
HaveGrown (d ∷ ds) [] = ⊥
HaveGrown (d ∷ ds) (e ∷ es) = ((e ≡ record d { ops = e.ops; chains = e.chains; receipts = e.receipts }) × Grows d.ops e.ops × Grows d.chains e.chains × Grows d.receipts e.receipts) × HaveGrown ds es

-- decisions were added, if any
pub record HasGrown (old new : PipelineView) : Type 0 where
  pub domains : HaveGrown old.domains new.domains
  pub gone : new.gone ≡ old.gone
  pub waiting : new.waiting ≡ old.waiting
  pub outcomes : Grows old.outcomes new.outcomes
  pub failures : cut_failures (length old.outcomes) new.failures ≡ old.failures

-- the domains with this many of their commits after the opening
abbrev pub cut_all : List DomainView → List ℕ → List DomainView
cut_all [] ks = []
cut_all (d ∷ ds) [] = d ∷ ds
cut_all (d ∷ ds) (k ∷ ks) = record d { ops = take k d.ops; chains = take k d.chains; receipts = take (k + 1) d.receipts } ∷ cut_all ds ks

-- the number of commits of each domain after its opening
abbrev pub counts_of : List DomainView → List ℕ
counts_of ds = map (λ (d : DomainView). length d.ops) ds

-- the next n of the submissions were decided, by the present versions, the same domains are live, and as many chains are known
pub record AreDecided (ss : List Sent) (old : PipelineView) (n : ℕ) (new : PipelineView) : Type 0 where
  pub sound : IsSound ss new
  pub world : world_in new.domains ≡ world_in old.domains
  pub live : (domain : ℕ) → is_live_in new.domains domain ≡ is_live_in old.domains domain
  pub versions : KeepVersions old.domains new.domains
  pub outcomes : new.outcomes ≡ old.outcomes ++ decide_next (world_in old.domains) (table_in old.domains) (is_live_in old.domains) ss old.outcomes n
  pub chains : length new.failures ≡ length old.failures

-- the same for any submissions for which it held
abbrev pub Decides : PipelineView → ℕ → PipelineView → Type 0
Decides old n new = (ss : List Sent) → IsSound ss old → AreDecided ss old n new
