-- The hub's state is that of its log.
use Rattle.std.specs.Prelude.{◌≡◌, ℕ, ◌<◌, Bool, List, length, if◌then◌else◌, nat_eq}
use Rattle.sal_history.specs.declared.call.Entry.{Entry}
use Rattle.sal_history.specs.History.{Answered, chain_domains, history, is_live, is_spent, outcomes, sents}
use Rattle.sal_history.specs.Versions.{schema_version, tables_now}
use Rattle.sal_history.specs.World.{OneIsUpgraded}
use Rattle.sal_history_laws.specs.Logs.{AreSentLawful, AreSound}
use Rattle.sal_hub.specs.declared.pipeline.Pipeline.{Pipeline}
use Rattle.sal_hub.specs.Begins.{AreOfWriters}
use Rattle.sal_hub.specs.Journals.{Noted, mark_at}
use Rattle.sal_hub.specs.HubHistory.{HubHistory}
use Rattle.sal_hub.specs.PipelineView.{AllKept, IsSound, PipelineView, is_live_in, queue_of, table_in, version_of, world_in}

-- the log with its replies
abbrev pub answers : List Entry → PipelineView → List Answered
answers log queue = history (world_in queue.domains) log

-- the number of a domain's version, by that of domain 0: no other domain has a later one
abbrev pub number_of : ℕ → ℕ → ℕ
number_of version domain = if nat_eq domain 0 then version else 0

-- The submissions, the outcomes, the commits, the marks, the chains that failed and the domains that are live are the log's; the
-- operations of each submission are lawful over the base of its transaction, which began in a mode that writes, and the opening trees of each
-- domain are closed. Each domain has the present version of its schema, and only domain 0 has more than one.
pub record IsCurrent (log : List Entry) (noted : List Bool) (queue : PipelineView) : Type 0 where
  pub sound : IsSound (sents (answers log queue)) queue
  pub outcomes : queue.outcomes ≡ outcomes (answers log queue)
  pub marks : (place : ℕ) → mark_at noted place ≡ is_spent (answers log queue) place
  pub chains : length queue.failures ≡ length (chain_domains (answers log queue))
  pub live : (domain : ℕ) → is_live_in queue.domains domain ≡ is_live (world_in queue.domains) (answers log queue) domain
  pub lawful : AreSentLawful (world_in queue.domains) (answers log queue)
  pub writers : AreOfWriters (answers log queue)
  pub openings : AreSound (world_in queue.domains)
  pub only : OneIsUpgraded (world_in queue.domains)
  pub tables : (domain : ℕ) → table_in queue.domains domain ≡ tables_now (world_in queue.domains) (answers log queue) domain
  pub versions : (domain : ℕ) → domain < length queue.domains → version_of queue.domains domain ≡ number_of (schema_version (answers log queue)) domain

pub record IsKept (journal : Noted) (p : Pipeline) : Type 0 where
  pub kept : AllKept p.domains.items
  pub current : IsCurrent journal.log journal.marks (queue_of p)
  -- each decided submission was dropped
  pub let_go : p.gone ≡ length p.outcomes.items

-- how a contract sees it
abbrev pub known_of : Noted → Pipeline → HubHistory
known_of journal p = record { world = world_in (queue_of p).domains; log = journal.log }
