-- The versions of the next epoch's world are those from the present one on.
use Rattle.std.proofs.Common.{◌≡◌, ℕ, zero, suc, ◌+◌, List, [], ◌∷◌, drop, length, map, Option, Some, refl, ap, sym, ◌∙◌, arith}
use Rattle.std.specs.Prelude.{slice_get}
use Rattle.std.specs.Option.{option_map_or}
use Rattle.sal_rows.specs.declared.clash.Rules.{Rules}
use Rattle.sal_schema.specs.declared.table.SchemaTable.{SchemaTable}
use Rattle.sal_history.specs.World.{Domain, OneIsUpgraded, version_from}
use Rattle.sal_history.proofs.Versions.{table-in}
use Rattle.sal_hub.specs.Epochs.{domains_from, next_domain, next_world, upgrades_at}
use Rattle.sal_hub.specs.HubHistory.{HubHistory}
use Rattle.sal_script.specs.Tables.{Versions, last_among, tables_of, versions_of}
use Rattle.sal_client.specs.Lists.{begun_with, from_version}
use Rattle.sal_prepare.proofs.Worlds.{last_tables}
use Rattle.sal_history.specs.History.{history}
use Rattle.sal_history.specs.Versions.{schema_version}
use Rattle.sal_prepare.specs.NextEpoch.{EpochsReadOn}

-- the present version of domain 0
abbrev pub version_of : HubHistory → ℕ
version_of known = schema_version (history known.world known.log)

-- the version and those after it
on-version : (table : SchemaTable) (upgrades : List SchemaTable) (v : ℕ) → (version_from table upgrades v ∷ drop v upgrades) ≡ from_version v (table ∷ upgrades)
on-version table [] zero = refl
on-version table [] (suc v) = refl
on-version table (next ∷ upgrades) zero = refl
on-version table (next ∷ upgrades) (suc v) = on-version next upgrades v

alone-on : (table : SchemaTable) (upgrades : List SchemaTable) (v : ℕ) → upgrades ≡ [] → (version_from table upgrades v ∷ drop v upgrades) ≡ table ∷ upgrades
alone-on table [] zero none = refl
alone-on table [] (suc v) none = refl
alone-on table (next ∷ upgrades) v none = cc

-- the last one stays the last
last-from : (v : ℕ) (own : List SchemaTable) → last_among (from_version v own) ≡ last_among own
last-from zero [] = refl
last-from (suc v) [] = refl
last-from zero (table ∷ upgrades) = refl
last-from (suc v) (table ∷ []) = refl
last-from (suc v) (table ∷ next ∷ upgrades) = last-from v (next ∷ upgrades)

last-begun : (v : ℕ) (tables : List Versions) → map last_among (begun_with v tables) ≡ map last_among tables
last-begun v [] = refl
last-begun v (own ∷ devices) = ap (λ (t : SchemaTable). t ∷ map last_among devices) (last-from v own)

module _ (rules : Rules) (known : HubHistory) (only : OneIsUpgraded known.world) where
  -- those of a domain of the next world
  abbrev pub next_versions : ℕ → Versions
  next_versions n = (next_domain rules known n).table ∷ (next_domain rules known n).upgrades

  one : (n : ℕ) (d : Domain) → slice_get known.world n ≡ Some d → next_versions n ≡ version_from d.table d.upgrades (version_of known) ∷ drop (version_of known) d.upgrades
  one n d at =
      let listed : upgrades_at known.world n ≡ d.upgrades = ap (λ (o : Option Domain). option_map_or (λ (x : Domain). x.upgrades) o []) at in
      λ i. table-in known.world n (version_of known) d at i ∷ drop (version_of known) (listed i)

  device : (k : ℕ) (d : Domain) → slice_get known.world (suc k) ≡ Some d → next_versions (suc k) ≡ d.table ∷ d.upgrades
  device k d at = one (suc k) d at ∙ alone-on d.table d.upgrades (version_of known) (only k d at)

  others : (n : ℕ) (ws : List Domain) → ((k : ℕ) (d : Domain) → slice_get ws k ≡ Some d → next_versions (n + k) ≡ d.table ∷ d.upgrades) → versions_of (domains_from (next_domain rules known) n (length ws)) ≡ versions_of ws
  others n [] each = refl
  others n (d ∷ ws) each =
      let here : n ≡ n + 0 = omega arith in
      let first : next_versions n ≡ d.table ∷ d.upgrades = ap next_versions here ∙ each 0 d refl in
      let rest : versions_of (domains_from (next_domain rules known) (n + 1) (length ws)) ≡ versions_of ws =
      others (n + 1) ws (λ k e at. let next : n + 1 + k ≡ n + suc k = omega arith in ap next_versions next ∙ each (suc k) e at) in
      λ i. first i ∷ rest i

  whole : (ws : List Domain) → known.world ≡ ws → versions_of (domains_from (next_domain rules known) 0 (length ws)) ≡ begun_with (version_of known) (versions_of ws)
  whole [] is = refl
  whole (d ∷ ws) is =
      let own : next_versions 0 ≡ from_version (version_of known) (d.table ∷ d.upgrades) = one 0 d (ap (λ (w : List Domain). slice_get w 0) is) ∙ on-version d.table d.upgrades (version_of known) in
      let rest : versions_of (domains_from (next_domain rules known) (0 + 1) (length ws)) ≡ versions_of ws =
      others (0 + 1) ws (λ k e at. let next : 0 + 1 + k ≡ suc k = omega arith in ap next_versions next ∙ device k e (ap (λ (w : List Domain). slice_get w (suc k)) is ∙ at)) in
      λ i. own i ∷ rest i

  pub next-versions : versions_of (next_world rules known) ≡ begun_with (version_of known) (versions_of known.world)
  next-versions = whole known.world refl

  pub next-tables : tables_of (next_world rules known) ≡ tables_of known.world
  next-tables =
      sym (last_tables (next_world rules known)) ∙ ap (map last_among) next-versions ∙ last-begun (version_of known) (versions_of known.world) ∙ last_tables known.world

pub epochs-read-on : EpochsReadOn
epochs-read-on rules known only = (next-versions rules known only, next-tables rules known only)
