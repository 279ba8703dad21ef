-- From the bytes of a script to its world, or the status of the first fault: of the script, the versions of domain 0's
-- schema, the modules of its devices in their order, their patterns, the data of their opening trees, refused openings. Domain 0, the
-- controller's own, comes before the devices.
use Rattle.std.specs.Prelude.{◌≡◌, ℕ, zero, suc, ◌+◌, List, [], ◌∷◌, ◌++◌, codes, decimal, if◌then◌else◌, MatchResult, Option, None, Some, Result, Ok, Err}
use Rattle.std.specs.List.{list_any}
use Rattle.serde_json.specs.Data.{Data}
use Rattle.serde_json.specs.View.{view}
use Rattle.sal_types.specs.Reading.{◌>>=◌}
use Rattle.sal_types.specs.declared.value.Store.{Store}
use Rattle.sal_types.specs.declared.value.Store.TheVariants.{Config, Oper}
use Rattle.sal_types.specs.declared.row.Row.{Row}
use Rattle.sal_rows.specs.declared.clash.Rules.{Rules}
use Rattle.sal_schema.specs.declared.table.SchemaTable.{SchemaTable}
use Rattle.sal_json.specs.Patterns.{has_malformed}
use Rattle.sal_data.specs.declared.fault.DataFault.{DataFault}
use Rattle.sal_data.specs.Read.{read_data}
use Rattle.sal_history.specs.World.{Domain, table_of}
use Rattle.sal_history.specs.declared.opening.Opening.{Opening}
use Rattle.sal_hub.specs.declared.opening.OpenFault.{OpenFault}
use Rattle.sal_hub.specs.declared.opening.OpenFault.TheVariants.{NotConfig, Broken, NoMemory as NoHub}
use Rattle.sal_hub.specs.Openings.{fault_of}
use Rattle.sal_script.specs.Tables.{first_among, first_in, later_among, versions_in}
use Rattle.sal_script.specs.Script.{DeviceParts, Parts, script_of}
use Rattle.sal_script.specs.Reading.{parts}
use Rattle.sal_script.specs.Report.{breach_text, data_fault_text, path_text, store_text}
use Rattle.sal_prepare.specs.Each.{each_from}
use Rattle.sal_client.specs.Lists.{versions_by}
use Rattle.sal_versions.specs.Schemas as schemas
pub use Rattle.sal_versions.specs.Shared.{tables_in}
use Rattle.sal_versions.specs.Versions.{Versions, tables_of, versions_of}
use Rattle.sal_prepare.specs.declared.domains.Schemas.{Schemas}
use Rattle.sal_prepare.specs.declared.domains.ScriptDomain.{ScriptDomain}
use Rattle.sal_prepare.specs.declared.scripted.Prepared.{Prepared as CodePrepared}
use Rattle.sal_prepare.specs.declared.status.Status.{Status}
use Rattle.sal_prepare.specs.declared.status.Status.TheVariants.{BadScript, BadSchema, BadOpening, NoMemory}

-- ---- the script

abbrev pub or_script : Result Parts (List ℕ) → Result Parts Status
or_script (Ok parts) = Ok parts
or_script (Err place) = Err (BadScript place)

-- its domains, by number
abbrev pub domains_of : Parts → List DeviceParts
domains_of parts = record { modules = parts.modules; config = parts.config; operational = parts.operational } ∷ parts.devices

-- ---- their schemas

-- the schema of a domain's modules
abbrev pub or_schema : {A : Type 0} → ℕ → Result A (List ℕ) → Result A Status
or_schema n (Ok made) = Ok made
or_schema n (Err text) = Err (BadSchema n text)

abbrev pub table_by : ℕ → DeviceParts → Result SchemaTable Status
table_by n domain = or_schema n (schemas.table_of domain.modules)

-- the versions of the schema of domain 0
abbrev pub own_versions : Parts → Result Versions Status
own_versions parts = or_schema 0 (versions_of parts.modules parts.upgrades)

-- the versions of the schemas of all domains, by domain
abbrev pub all_versions : Parts → Result (List (List SchemaTable)) Status
all_versions parts =
    own_versions parts >>= (λ own. each_from table_by 1 parts.devices >>= (λ devices. Ok (versions_by (tables_of own) devices)))

-- the text of a malformed pattern, which names the upgrade to its version
abbrev pub pattern_text : ℕ → List ℕ
pattern_text zero = codes "pattern"
pattern_text (suc v) = schemas.upgrade_text (suc v) (codes "pattern")

-- a malformed pattern of this version refuses the schema
abbrev pub unformed : {A : Type 0} → ℕ → ℕ → Result A Status
unformed n v = Err (BadSchema n (pattern_text v))

-- the number of the first version with a malformed pattern, counted from v on
abbrev pub malformed_from : ℕ → List SchemaTable → Option ℕ
malformed_from v [] = None
malformed_from v (table ∷ tables) = if list_any has_malformed table.types then Some v else malformed_from (v + 1) tables

abbrev pub or_unformed : {A : Type 0} → ℕ → A → Option ℕ → Result A Status
or_unformed n versions None = Ok versions
or_unformed n versions (Some v) = unformed n v

-- versions whose patterns are all well formed
abbrev pub if_formed : ℕ → List SchemaTable → Result (List SchemaTable) Status
if_formed n versions = or_unformed n versions (malformed_from 0 versions)

-- the same versions; all are built before the patterns of the first are checked
abbrev pub reader_versions : Parts → Result (List (List SchemaTable)) Status
reader_versions parts = all_versions parts >>= each_from if_formed 0

-- ---- their opening trees

-- the rows of an opening tree of a domain
abbrev pub or_opening : ℕ → SchemaTable → Store → Result (List Row) DataFault → Result (List Row) Status
or_opening n table s (Ok rows) = Ok rows
or_opening n table s (Err fault) = Err (BadOpening (decimal n ++ (32 ∷ (store_text s ++ (codes " data " ++ data_fault_text table fault)))))

abbrev pub opening_rows : ℕ → SchemaTable → Store → Data → Result (List Row) Status
opening_rows n table s json = or_opening n table s (read_data table [] json)

-- the opening trees of a domain, the configuration first
abbrev pub opening_trees : ℕ → SchemaTable → DeviceParts → Result Opening Status
opening_trees n table domain =
    opening_rows n table Config domain.config
    >>= (λ config. opening_rows n table Oper domain.operational
    >>= (λ oper. Ok (record { config = config; oper = oper })))

-- a domain of these versions, version 0 first, under version rules
abbrev pub domain_with : Rules → List SchemaTable → Opening → Domain
domain_with rules versions opening = record { table = first_among versions; upgrades = later_among versions; opening = opening; rules = rules }

-- a domain with its opening trees, which are read by version 0
abbrev pub opening_over : Rules → ℕ → List SchemaTable → DeviceParts → Result Domain Status
opening_over rules n versions domain = opening_trees n (first_among versions) domain >>= (λ opening. Ok (domain_with rules versions opening))

-- by the versions of its number
abbrev pub opening_by : Rules → List (List SchemaTable) → ℕ → DeviceParts → Result Domain Status
opening_by rules tables n domain = opening_over rules n (versions_in tables n) domain

-- the domain over which a hub is not opened
abbrev pub domain_in : OpenFault → ℕ
domain_in (NotConfig n path) = n
domain_in (Broken n s breach) = n
domain_in NoHub = 0

-- why it is not, by the table of the domain's schema: a row of state data in its configuration, or a rule that one of its trees breaks
abbrev pub refused_text : SchemaTable → OpenFault → Option (List ℕ)
refused_text table (NotConfig n path) = Some (decimal n ++ (codes " config not-config" ++ path_text table path))
refused_text table (Broken n s breach) = Some (decimal n ++ (32 ∷ (store_text s ++ (codes " breach" ++ breach_text table breach.path breach.rule))))
refused_text table NoHub = None

-- its status; `NoMemory` has no text
abbrev pub refused_as : Option (List ℕ) → Status
refused_as (Some text) = BadOpening text
refused_as None = NoMemory

abbrev pub or_refused : List Domain → Option OpenFault → Result (List Domain) Status
or_refused world None = Ok world
or_refused world (Some fault) = Err (refused_as (refused_text (table_of world 0 (domain_in fault)) fault))

-- the world, unless one of its opening trees is refused
abbrev pub opened : List Domain → Result (List Domain) Status
opened world = or_refused world (fault_of world)

-- the world of all opening trees, of which the data are read first
abbrev pub world_over : Rules → List DeviceParts → List (List SchemaTable) → Result (List Domain) Status
world_over rules domains tables = each_from (opening_by rules tables) 0 domains >>= opened

-- ---- the script and its world

-- a script, and its world
pub record Prepared : Type 0 where
  pub parts : Parts
  pub world : List Domain

-- the script with the world of its opening trees
abbrev pub over_world : Parts → List (List SchemaTable) → Result Prepared Status
over_world parts tables = world_over parts.rules (domains_of parts) tables >>= (λ world. Ok (record { parts = parts; world = world }))

-- The prepared script, or the status of the first fault after its reading.
abbrev pub prepared_of : Parts → Result Prepared Status
prepared_of parts = reader_versions parts >>= over_world parts

-- The script of the bytes, prepared, or the status of their first fault.
abbrev pub prepared : List ℕ → Result Prepared Status
prepared bytes = or_script (script_of bytes) >>= prepared_of

-- ---- results of functions

-- a prepared script in the code's form
abbrev pub seen : CodePrepared → Prepared
seen it = record { parts = parts it.read.script; world = it.hub.world }

-- the status is that of the definition; `NoMemory` has no condition
abbrev pub IsStatusOf : {A : Type 0} → Result A Status → Status → Type 0
IsStatusOf made NoMemory = Unit {0}
IsStatusOf made (BadScript place) = made ≡ Err (BadScript place)
IsStatusOf made (BadSchema n text) = made ≡ Err (BadSchema n text)
IsStatusOf made (BadOpening text) = made ≡ Err (BadOpening text)
IsStatusOf made status = ⊥

-- the result, seen by `seen`, is that of the definition; `NoMemory` has no condition
abbrev pub Comes : {A X : Type 0} → (X → A) → Result A Status → Result X Status → Type 0
Comes seen made result = MatchResult result (λ x. made ≡ Ok (seen x)) (IsStatusOf made)

-- a domain of a script in the code's form
abbrev pub given : ScriptDomain → DeviceParts
given domain = record { modules = domain.modules.now; config = view domain.config.now; operational = view domain.operational.now }

-- the versions of the schemas of all domains in the code's form
abbrev pub versions_shared : Schemas → List (List SchemaTable)
versions_shared schemas = versions_by (tables_in schemas.own.items) (tables_in schemas.devices.items)

-- one more after the earlier ones
abbrev pub with_next : {A : Type 0} → List A → Result A Status → Result (List A) Status
with_next done next = next >>= (λ x. Ok (done ++ x ∷ []))

-- these, and then those that are made
abbrev pub after_these : {A : Type 0} → List A → Result (List A) Status → Result (List A) Status
after_these done rest = rest >>= (λ more. Ok (done ++ more))

-- the status of a malformed pattern in this version of a schema, unless memory ran out
abbrev pub IsUnformed : ℕ → ℕ → Status → Type 0
IsUnformed n v status = IsStatusOf {A = List SchemaTable} (unformed n v) status

-- the status of an opening tree with this fault, unless memory ran out
abbrev pub IsOpeningFault : ℕ → SchemaTable → Store → DataFault → Status → Type 0
IsOpeningFault n table s fault status = IsStatusOf (or_opening n table s (Err fault)) status

-- the status of a hub that is refused with this fault, over these versions, unless memory ran out
abbrev pub IsRefusal : List (List SchemaTable) → OpenFault → Status → Type 0
IsRefusal tables fault NoMemory = Unit {0}
IsRefusal tables fault (BadOpening text) = refused_text (first_in tables (domain_in fault)) fault ≡ Some text
IsRefusal tables fault status = ⊥
