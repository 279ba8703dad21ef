-- Which schemas have no readers.
use Rattle.std.specs.Prelude.{◌≡◌, ℕ, Bool, true, false, List, map, take}
use Rattle.std.specs.declared.alloc.Global.{Global}
use Rattle.std.specs.declared.sync.Arc.{Arc}
use Rattle.std.specs.List.{list_any, slice_get}
use Rattle.std.specs.Option.{option_map_or}
use Rattle.sal_schema.specs.declared.table.SchemaTable.{SchemaTable}
use Rattle.sal_json.specs.Patterns.{has_malformed}
use Rattle.sal_script.specs.Tables.{Versions, versions_in}
use Rattle.sal_client.specs.declared.readers.ListFault.{ListFault}
use Rattle.sal_client.specs.declared.readers.ListFault.TheVariants as listed
use Rattle.sal_client.specs.declared.readers.ReadersFault.{ReadersFault}
use Rattle.sal_client.specs.declared.readers.ReadersFault.TheVariants.{Pattern, NoMemory}

-- a type of the schema has a malformed pattern
abbrev pub is_malformed : SchemaTable → Bool
is_malformed table = list_any has_malformed table.types

-- one of these versions has one
abbrev pub are_malformed : Versions → Bool
are_malformed versions = list_any is_malformed versions

-- the tables of schemas that are shared
abbrev pub shared_tables : List (Arc SchemaTable Global) → List SchemaTable
shared_tables schemas = map (λ (schema : Arc SchemaTable Global). schema.value) schemas

-- the schema at this index has one
abbrev pub IsUnreadable : ℕ → SchemaTable → ListFault → Type 0
IsUnreadable at table (listed.Pattern index) = (index ≡ at) × (is_malformed table ≡ true)
IsUnreadable at table listed.NoMemory = Unit {0}

-- of these schemas the one at this index is malformed, and none before it
abbrev pub IsFirstAt : List SchemaTable → ℕ → Type 0
IsFirstAt tables index = (option_map_or is_malformed (slice_get tables index) false ≡ true) × (list_any is_malformed (take index tables) ≡ false)

-- of schemas in a list the first one that is malformed
abbrev pub IsFirstMalformed : List SchemaTable → ListFault → Type 0
IsFirstMalformed tables (listed.Pattern index) = IsFirstAt tables index
IsFirstMalformed tables listed.NoMemory = Unit {0}

-- of the versions of all domains the first one that is malformed: no domain before has one, and no version before of this domain
abbrev pub IsMalformedAt : List Versions → ReadersFault → Type 0
IsMalformedAt tables (Pattern device version) = IsFirstAt (versions_in tables device) version × (list_any are_malformed (take device tables) ≡ false)
IsMalformedAt tables NoMemory = Unit {0}
