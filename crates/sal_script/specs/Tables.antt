-- The tables by which a script is read and reported: each version of each domain's schema.
use Rattle.std.specs.Prelude.{ℕ, Bool, ◌&&◌, List, [], ◌∷◌, length, map, nat_lt, slice_get, unwrap_or}
use Rattle.sal_schema.specs.declared.table.SchemaTable.{SchemaTable}
use Rattle.sal_history.specs.World.{Domain, no_table, version_from, version_in}

-- ---- the last versions

-- the tables of the last versions of the domains' schemas, by domain
abbrev pub tables_of : List Domain → List SchemaTable
tables_of world = map (λ (d : Domain). version_in d (length d.upgrades)) world

-- that of a domain, without nodes if the script has none of that number
abbrev pub table_in : List SchemaTable → ℕ → SchemaTable
table_in tables domain = unwrap_or (slice_get tables domain) no_table

-- ---- all versions

-- the tables of a schema's versions, version 0 first
abbrev pub Versions : Type 0
Versions = List SchemaTable

-- those of the domains, by domain
abbrev pub versions_of : List Domain → List Versions
versions_of world = map (λ (d : Domain). d.table ∷ d.upgrades) world

-- those of one domain, none if the script has none of that number
abbrev pub versions_in : List Versions → ℕ → Versions
versions_in tables domain = unwrap_or (slice_get tables domain) []

-- the table of a version, of the last one if there are fewer
abbrev pub version_among : Versions → ℕ → SchemaTable
version_among [] version = no_table
version_among (table ∷ upgrades) version = version_from table upgrades version

-- version 0, and the versions after it
abbrev pub first_among : Versions → SchemaTable
first_among [] = no_table
first_among (table ∷ upgrades) = table

abbrev pub later_among : Versions → List SchemaTable
later_among [] = []
later_among (table ∷ upgrades) = upgrades

-- the table of the last version
abbrev pub last_among : Versions → SchemaTable
last_among [] = no_table
last_among (table ∷ upgrades) = version_from table upgrades (length upgrades)

-- the table of a domain's schema by a version, by version 0 and by the last one
abbrev pub table_at : List Versions → ℕ → ℕ → SchemaTable
table_at tables version domain = version_among (versions_in tables domain) version

abbrev pub first_in : List Versions → ℕ → SchemaTable
first_in tables domain = first_among (versions_in tables domain)

abbrev pub last_in : List Versions → ℕ → SchemaTable
last_in tables domain = last_among (versions_in tables domain)

-- the script has a domain of this number: the controller's own, or a device's, mounted or not
abbrev pub has_domain : List Versions → ℕ → Bool
has_domain tables domain = nat_lt domain (length tables)

-- an upgrade of domain 0 leads to this version
abbrev pub has_upgrade : List Versions → ℕ → Bool
has_upgrade tables version = nat_lt 0 version && nat_lt version (length (versions_in tables 0))
