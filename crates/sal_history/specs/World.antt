-- The world: the domains, each with the tables of its schema's versions, its opening trees and its version rules. Domain 0 is the
-- controller's own.
use Rattle.std.specs.Prelude.{◌≡◌, ℕ, zero, suc, List, [], ◌∷◌, length, Option, None, Some, slice_get}
use Rattle.sal_types.specs.declared.value.Store.{Store}
use Rattle.sal_types.specs.declared.value.Store.TheVariants.{Config, Oper}
use Rattle.sal_types.specs.declared.row.Row.{Row}
use Rattle.sal_rows.specs.declared.clash.Rules.{Rules}
use Rattle.sal_rows.specs.declared.clash.Rules.TheVariants.{One}
use Rattle.sal_schema.specs.declared.table.SchemaTable.{SchemaTable}
use Rattle.sal_schema.specs.Versions.{Extends}
use Rattle.sal_history.specs.declared.opening.Opening.{Opening}

-- A domain: the table of version 0 of its schema, those of the versions after it, its opening trees, which are read by version 0, and
-- the version rules by which its submissions are decided. Only domain 0 may have more than one version.
pub record Domain : Type 0 where
  pub table : SchemaTable
  pub upgrades : List SchemaTable
  pub opening : Opening
  pub rules : Rules

-- the opening tree of a store
abbrev pub tree_of_opening : Opening → Store → List Row
tree_of_opening opening Config = opening.config
tree_of_opening opening Oper = opening.oper

-- the opening trees of a domain, empty if the world has no domain of that number
abbrev pub opening_of : List Domain → ℕ → Store → List Row
opening_of world domain s = at (slice_get world domain)
  where
    at : Option Domain → List Row
    at None = []
    at (Some d) = tree_of_opening d.opening s

-- the version rules of a domain, 1 if the world has no domain of that number
abbrev pub rules_of : List Domain → ℕ → Rules
rules_of world domain = at (slice_get world domain)
  where
    at : Option Domain → Rules
    at None = One
    at (Some d) = d.rules

-- a table without nodes
abbrev pub no_table : SchemaTable
no_table = record { nodes = []; types = []; modules = []; identities = [] }

-- ---- versions

-- counted from the table on, that of a version; the last one if there are fewer
abbrev pub version_from : SchemaTable → List SchemaTable → ℕ → SchemaTable
version_from table [] v = table
version_from table (next ∷ upgrades) zero = table
version_from table (next ∷ upgrades) (suc v) = version_from next upgrades v

-- the table of a version of a domain's schema; without upgrades it is the one table
abbrev pub version_in : Domain → ℕ → SchemaTable
version_in d v = version_from d.table d.upgrades v

-- and by the domain's number, without nodes if the world has no domain of that number
abbrev pub table_of : List Domain → ℕ → ℕ → SchemaTable
table_of world v domain = at (slice_get world domain)
  where
    at : Option Domain → SchemaTable
    at None = no_table
    at (Some d) = version_in d v

-- the table of the last version
abbrev pub last_of : List Domain → ℕ → SchemaTable
last_of world domain = at (slice_get world domain)
  where
    at : Option Domain → SchemaTable
    at None = no_table
    at (Some d) = version_in d (length d.upgrades)

-- each version extends the one before
abbrev pub IsChain : SchemaTable → List SchemaTable → Type 0
IsChain older [] = Unit {0}
IsChain older (newer ∷ upgrades) = Extends newer older × IsChain newer upgrades

-- only domain 0 has more than one version
abbrev pub OneIsUpgraded : List Domain → Type 0
OneIsUpgraded world = (number : ℕ) (d : Domain) → slice_get world (suc number) ≡ Some d → d.upgrades ≡ []

-- the properties of the versions of a world's domains
pub record AreVersions (world : List Domain) : Type 0 where
  pub chain : (number : ℕ) (d : Domain) → slice_get world number ≡ Some d → IsChain d.table d.upgrades
  pub only : OneIsUpgraded world
