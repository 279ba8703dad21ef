-- The hub's domains.
use Rattle.std.specs.Prelude.{◌≡◌, ℕ, ◌<◌, List, length, slice_index_or, nat_eq, if◌then◌else◌}
use Rattle.sal_graft.specs.Kept.{AreKept, chains_of, opening_in, ops_of}
use Rattle.sal_commit.specs.declared.domain.Domain.{Domain}
use Rattle.sal_commit.specs.Stamps.{receipts_of}
use Rattle.sal_commit.specs.Versions.{last_in}
use Rattle.sal_history.specs.World.{last_of, opening_of, rules_of}
use Rattle.sal_history.specs.History.{commits, history, is_live, outcomes, sents}
use Rattle.sal_history.specs.Submissions.{done_chains}
use Rattle.sal_history.specs.Versions.{schema_version, tables_now}
use Rattle.sal_hub.specs.CommitReceipts.{commit_receipts}
use Rattle.sal_hub.specs.HubHistory.{HubHistory}

-- the domain of this number, with its version rules, the present and the last version of its schema, the number of the present one, and its commits
-- so far
pub record IsDomain (known : HubHistory) (n : ℕ) (d : Domain) : Type 0 where
  pub number : d.number ≡ n
  pub live : d.live ≡ is_live known.world (history known.world known.log) n
  pub rules : d.rules ≡ rules_of known.world n
  pub schema : d.schema.value ≡ tables_now known.world (history known.world known.log) n
  pub last : last_in d ≡ last_of known.world n
  pub version : d.version ≡ (if nat_eq n 0 then schema_version (history known.world known.log) else 0)
  pub kept : AreKept d.commits.items
  pub opening : opening_in d.commits.items ≡ opening_of known.world n
  pub commits : ops_of d.commits.items ≡ commits (history known.world known.log) n
  pub chains : chains_of d.commits.items ≡ done_chains n (sents (history known.world known.log)) (outcomes (history known.world known.log))
  pub receipts : receipts_of d.commits.items ≡ commit_receipts n (sents (history known.world known.log)) (outcomes (history known.world known.log))

pub record AreDomains (known : HubHistory) (ds : List Domain) : Type 0 where
  pub all : length ds ≡ length known.world
  pub each : (n : ℕ) (d : Domain) → n < length ds → d ≡ slice_index_or ds n d → IsDomain known n d
