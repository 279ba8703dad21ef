-- The worlds of scripts are sound: their versions extend each other, and their openings are closed.
use Rattle.std.specs.Prelude.{◌≡◌, ◌<◌, ◌≤◌, ℕ, suc, List, [], length, Ok, All}
use Rattle.sal_rows.specs.declared.clash.Rules.{Rules}
use Rattle.sal_schema.specs.declared.table.SchemaTable.{SchemaTable}
use Rattle.sal_schema.specs.Valid.{IsTable}
use Rattle.sal_script.specs.Tables.{first_among, later_among, versions_in}
use Rattle.sal_history_laws.specs.Logs.{AreSound}
use Rattle.sal_history.specs.World.{Domain, IsChain}
use Rattle.sal_script.specs.JsonScripts.{AreJsonDevices}
use Rattle.sal_script.specs.Script.{DeviceParts}
use Rattle.sal_prepare.specs.Each.{each_from}
use Rattle.sal_prepare.specs.Scripted.{opening_by, world_over}

-- The versions of a schema: there is one, each has the table of a schema, and each extends the version before.
pub record IsChained (versions : List SchemaTable) : Type 0 where
  pub some : 1 ≤ length versions
  pub tables : All IsTable versions
  pub chain : IsChain (first_among versions) (later_among versions)

-- The versions of the schemas of all domains, of which domain 0 alone has more than one.
pub record AreChains (tables : List (List SchemaTable)) : Type 0 where
  pub each : (n : ℕ) → n < length tables → IsChained (versions_in tables n)
  pub only : (n : ℕ) → later_among (versions_in tables (suc n)) ≡ []

-- The domains that these data are read to, over these versions, are sound.
abbrev pub OpenSound : List DeviceParts → List (List SchemaTable) → Type 0
OpenSound domains tables = (rules : Rules) (world : List Domain) → each_from (opening_by rules tables) 0 domains ≡ Ok world → AreSound world

-- The domains of a script, over such versions, are sound.
abbrev pub WorldsAreSound : Type 0
WorldsAreSound =
    (rules : Rules) (domains : List DeviceParts) (tables : List (List SchemaTable)) (world : List Domain) → AreJsonDevices domains → length domains ≤ length tables → AreChains tables
    → world_over rules domains tables ≡ Ok world → AreSound world
