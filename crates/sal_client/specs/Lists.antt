-- The versions of all domains, from those of the controller's own and the schemas of the devices.
use Rattle.std.specs.Prelude.{ℕ, zero, suc, List, [], ◌∷◌, map}
use Rattle.sal_schema.specs.declared.table.SchemaTable.{SchemaTable}

-- a device has one version
abbrev pub alone : SchemaTable → List SchemaTable
alone table = table ∷ []

abbrev pub versions_by : List SchemaTable → List SchemaTable → List (List SchemaTable)
versions_by own devices = own ∷ map alone devices

-- the versions from this one on; the last one alone if there are fewer
abbrev pub from_version : ℕ → List SchemaTable → List SchemaTable
from_version version [] = []
from_version zero (table ∷ upgrades) = table ∷ upgrades
from_version (suc version) (table ∷ []) = table ∷ []
from_version (suc version) (table ∷ next ∷ upgrades) = from_version version (next ∷ upgrades)

-- without the first versions of the controller's own domain: this version is its version 0
abbrev pub begun_with : ℕ → List (List SchemaTable) → List (List SchemaTable)
begun_with version [] = []
begun_with version (own ∷ devices) = from_version version own ∷ devices
