-- The next epoch of a hub: it begins with the newest trees, by the present version of each schema.
use Rattle.std.specs.Prelude.{◌≡◌, ℕ, zero, suc, ◌+◌, ◌<◌, List, [], ◌∷◌, drop, length, map, nat_eq, slice_get}
use Rattle.std.specs.Option.{option_map_or}
use Rattle.sal_types.specs.declared.value.Store.{Store}
use Rattle.sal_types.specs.declared.value.Store.TheVariants.{Config, Oper}
use Rattle.sal_rows.specs.Commits.{tree_after}
use Rattle.sal_rows.specs.declared.clash.Rules.{Rules}
use Rattle.sal_schema.specs.declared.table.SchemaTable.{SchemaTable}
use Rattle.sal_history.specs.declared.call.Entry.{Entry}
use Rattle.sal_history.specs.History.{history, newest_tree, trees_at}
use Rattle.sal_history.specs.Versions.{schema_version, tables_now}
use Rattle.sal_history.specs.World.{Domain, version_from}
use Rattle.sal_hub.specs.HubHistory.{HubHistory}
use Rattle.sal_hub.specs.PipelineView.{DomainView}

-- the versions of a domain's schema after the first one
abbrev pub upgrades_at : List Domain → ℕ → List SchemaTable
upgrades_at world n = option_map_or (λ (d : Domain). d.upgrades) (slice_get world n) []

-- the domain of this number in the next epoch: the present version of its schema is version 0, those after it stay, and its newest trees are its
-- opening
abbrev pub next_domain : Rules → HubHistory → ℕ → Domain
next_domain rules known n = record {
  table = tables_now known.world (history known.world known.log) n;
  upgrades = drop (schema_version (history known.world known.log)) (upgrades_at known.world n);
  opening = record { config = newest_tree known.world known.log n Config; oper = newest_tree known.world known.log n Oper };
  rules = rules;
}

-- a domain for each of this many numbers, from n on
abbrev pub domains_from : (ℕ → Domain) → ℕ → ℕ → List Domain
domains_from domain n zero = []
domains_from domain n (suc count) = domain n ∷ domains_from domain (n + 1) count

-- the world of the next epoch
abbrev pub next_world : Rules → HubHistory → List Domain
next_world rules known = domains_from (next_domain rules known) 0 (length known.world)

-- a hub without calls over it
abbrev pub next_hub : Rules → HubHistory → HubHistory
next_hub rules known = record { world = next_world rules known; log = [] }

-- For any calls, the trees of such a world at commit 0 are the newest ones of the hub before.
abbrev pub OpensAtTheNewest : HubHistory → List Domain → Type 0
OpensAtTheNewest known world =
    (n : ℕ) (s : Store) (log : List Entry) → n < length known.world → trees_at world (history world log) n s 0 ≡ newest_tree known.world known.log n s

-- ---- in the code's form

-- the domain in the next epoch
abbrev pub begun_view : Rules → DomainView → DomainView
begun_view rules d = record {
  number = d.number;
  live = nat_eq d.number 0;
  table = d.table;
  first = version_from d.first d.upgrades d.version;
  upgrades = drop d.version d.upgrades;
  version = 0;
  since = 0;
  rules = rules;
  opening = λ s. tree_after s (d.opening s) d.ops;
  ops = [];
  chains = [];
  receipts = 0 ∷ [];
}

-- all domains
abbrev pub begun_views : Rules → List DomainView → List DomainView
begun_views rules ds = map (begun_view rules) ds
