-- The versions of a domain's schema, and its upgrade to the next one.
use Rattle.std.specs.Prelude.{◌≡◌, ℕ, ◌-◌, ◌⊎◌, List, length, map, Option, Some}
use Rattle.std.specs.declared.alloc.Global.{Global}
use Rattle.std.specs.declared.sync.Arc.{Arc}
use Rattle.sal_types.specs.declared.value.Store.{Store}
use Rattle.sal_types.specs.declared.row.Row.{Row}
use Rattle.sal_rows.specs.Clash.{tip}
use Rattle.sal_schema.specs.declared.table.SchemaTable.{SchemaTable}
use Rattle.sal_history.specs.World.{version_from}
use Rattle.sal_graft.specs.Kept.{opening_in, ops_of}
use Rattle.sal_commit.specs.declared.domain.Domain.{Domain}
use Rattle.sal_commit.specs.declared.fault.DomainFault.{DomainFault}
use Rattle.sal_commit.specs.declared.fault.DomainFault.TheVariants.{NoMemory}
use Rattle.sal_commit.specs.Opening.{fault_over}

-- the tables of versions
abbrev pub tables_of : List (Arc SchemaTable Global) → List SchemaTable
tables_of versions = map (λ (v : Arc SchemaTable Global). v.value) versions

-- the table of a version of the domain's schema
abbrev pub version_in : Domain → ℕ → SchemaTable
version_in d version = version_from d.first.value (tables_of d.upgrades.items) version

-- the table of the last version
abbrev pub last_in : Domain → SchemaTable
last_in d = version_in d (length (tables_of d.upgrades.items))

-- the newest trees, by store
abbrev pub newest_in : Domain → Store → List Row
newest_in d s = tip (opening_in d.commits.items) (ops_of d.commits.items) s

-- why the domain is not upgraded to this version: a newest tree would break a rule of it; the configuration is checked first
abbrev pub upgrade_fault : Domain → ℕ → Option DomainFault
upgrade_fault d version = fault_over (version_in d version) (newest_in d)

abbrev pub IsUpgradeFault : Domain → ℕ → DomainFault → Type 0
IsUpgradeFault d version fault = (fault ≡ NoMemory) ⊎ (upgrade_fault d version ≡ Some fault)

-- The domain after the upgrade to the version: its commits stay, and from the newest of them on no tree breaks a rule of the new
-- version.
pub record Upgrades (old : Domain) (next : ℕ) (new : Domain) : Type 0 where
  pub number : new.number ≡ old.number
  pub live : new.live ≡ old.live
  pub first : new.first ≡ old.first
  pub upgrades : new.upgrades ≡ old.upgrades
  pub version : new.version ≡ next
  pub schema : new.schema.value ≡ version_in old next
  pub since : new.since ≡ length old.commits.items - 1
  pub commits : new.commits.items ≡ old.commits.items
  pub rules : new.rules ≡ old.rules
