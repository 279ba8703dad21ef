-- A script whose domains go on: the controller's own begins with trees of one of its versions, and devices with trees that are given, in place of the
-- script's opening trees.
use Rattle.std.specs.Prelude.{◌≡◌, ◌&&◌, ℕ, zero, suc, Bool, true, List, [], ◌∷◌, drop, nat_lt, length, Option, None, Some, Result, Ok}
use Rattle.sal_types.specs.Reading.{◌>>=◌}
use Rattle.sal_rows.specs.declared.clash.Rules.{Rules}
use Rattle.sal_schema.specs.declared.table.SchemaTable.{SchemaTable}
use Rattle.sal_schema.specs.Fitting.{is_closed}
use Rattle.sal_history.specs.World.{Domain}
use Rattle.sal_history.specs.declared.opening.Opening.{Opening}
use Rattle.sal_history_laws.specs.Logs.{AreSound}
use Rattle.sal_script.specs.Script.{DeviceParts, Parts, script_of}
use Rattle.sal_script.specs.Tables.{first_among, table_at, versions_in}
use Rattle.sal_prepare.specs.Each.{each_from}
use Rattle.sal_prepare.specs.Scripted.{domain_with, if_formed, opened, opening_by, or_script, reader_versions}
use Rattle.sal_prepare.specs.declared.status.Status.{Status}

-- the script has this version of the schema of the controller's own domain, and the trees fit at the root by it
abbrev pub are_of_version : List (List SchemaTable) → ℕ → Opening → Bool
are_of_version tables version o =
    nat_lt version (length (versions_in tables 0)) && (is_closed (table_at tables version 0) o.config && is_closed (table_at tables version 0) o.oper)

-- ---- the trees that are given for devices

-- a domain with the trees that are given for it, if there are any
abbrev pub with_opening : Domain → Option Opening → Domain
with_opening d None = d
with_opening d (Some o) = record d { opening = o }

-- the domains with the trees that are given, in order; those after the last given ones stay
abbrev pub with_openings : List Domain → List (Option Opening) → List Domain
with_openings ds [] = ds
with_openings [] (o ∷ given) = []
with_openings (d ∷ ds) (o ∷ given) = with_opening d o ∷ with_openings ds given

-- the domain of this number with the trees that are given for it
abbrev pub with_opening_at : List Domain → ℕ → Option Opening → List Domain
with_opening_at [] n o = []
with_opening_at (d ∷ ds) zero o = with_opening d o ∷ ds
with_opening_at (d ∷ ds) (suc n) o = d ∷ with_opening_at ds n o

-- the trees that are given for a domain fit at the root by this table
abbrev pub is_fitting : SchemaTable → Option Opening → Bool
is_fitting table None = true
is_fitting table (Some o) = is_closed table o.config && is_closed table o.oper

-- and so do those of each domain, in order, by version 0 of its schema
abbrev pub are_fitting : List (List SchemaTable) → List (Option Opening) → Bool
are_fitting tables [] = true
are_fitting [] (o ∷ given) = true
are_fitting (versions ∷ tables) (o ∷ given) = is_fitting (first_among versions) o && are_fitting tables given

-- the trees that are given for the devices do, by the versions of all domains
abbrev pub devices_fit : List (List SchemaTable) → List (Option Opening) → Bool
devices_fit tables given = are_fitting (drop 1 tables) given

-- ---- the world

-- the controller's own domain, and then the devices, with the trees that are given for them
abbrev pub with_own : Domain → List (Option Opening) → Result (List Domain) Status → Result (List Domain) Status
with_own own given others = others >>= (λ ds. Ok (own ∷ with_openings ds given))

-- The world of a script that goes on, by these versions, of which the first of the controller's own domain is the present one: that domain has
-- these opening trees, and each device those that are given for it, or else those of the script.
abbrev pub world_on : Rules → List DeviceParts → List (List SchemaTable) → Opening → List (Option Opening) → Result (List Domain) Status
world_on rules devices tables own given = with_own (domain_with rules (versions_in tables 0) own) given (each_from (opening_by rules tables) 1 devices) >>= opened

-- the same, if the patterns of these versions are well formed
abbrev pub resumed_with : Rules → List DeviceParts → List (List SchemaTable) → Opening → List (Option Opening) → Result (List Domain) Status
resumed_with rules devices tables own given = each_from if_formed 0 tables >>= (λ formed. world_on rules devices formed own given)

-- each device as in the script
abbrev pub resumed : Rules → List DeviceParts → List (List SchemaTable) → Opening → Result (List Domain) Status
resumed rules devices tables own = resumed_with rules devices tables own []

-- a script, and the versions of all its domains
pub record Ground : Type 0 where
  pub parts : Parts
  pub tables : List (List SchemaTable)

-- the script with its versions
abbrev pub ground_under : Parts → Result Ground Status
ground_under parts = reader_versions parts >>= (λ tables. Ok (record { parts = parts; tables = tables }))

-- The script that the bytes denote, with its versions, or the status of the first fault. The opening trees are not read.
abbrev pub ground : List ℕ → Result Ground Status
ground bytes = or_script (script_of bytes) >>= ground_under

-- the domains that these data are read to are sound
abbrev pub OthersAreSound : List DeviceParts → List (List SchemaTable) → Type 0
OthersAreSound devices tables = (rules : Rules) (ds : List Domain) → each_from (opening_by rules tables) 1 devices ≡ Ok ds → AreSound ds
