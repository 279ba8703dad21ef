-- The opening trees of a device, and why they are refused.
use Rattle.std.specs.Prelude.{◌≡◌, ◌⊎◌, List, Option, Some}
use Rattle.std.specs.Option.{option_map, option_or}
use Rattle.sal_types.specs.declared.value.Store.{Store}
use Rattle.sal_types.specs.declared.value.Store.TheVariants.{Config, Oper}
use Rattle.sal_types.specs.declared.row.Row.{Row}
use Rattle.sal_schema.specs.declared.table.SchemaTable.{SchemaTable}
use Rattle.sal_rules.specs.Breaches.{breach}
use Rattle.sal_history.specs.declared.opening.Device.{Device}
use Rattle.sal_history.specs.World.{tree_of_opening}
use Rattle.sal_commit.specs.declared.fault.DomainFault.{DomainFault}
use Rattle.sal_commit.specs.declared.fault.DomainFault.TheVariants.{Broken, NoMemory}

-- the opening trees of a device, by store
abbrev pub opening_of_device : Device → Store → List Row
opening_of_device device s = tree_of_opening device.opening s

-- the breach of a store, as a fault
abbrev pub broken : SchemaTable → Store → List Row → Option DomainFault
broken table s rows = option_map (Broken s) (breach table s rows)

-- a fault of the configuration comes before one of the operational store
abbrev pub fault_over : SchemaTable → (Store → List Row) → Option DomainFault
fault_over table trees = option_or (broken table Config (trees Config)) (broken table Oper (trees Oper))

-- why the opening trees of a device are refused
abbrev pub fault_of : Device → Option DomainFault
fault_of device = fault_over device.schema.value (opening_of_device device)

abbrev pub IsFaultOf : Device → DomainFault → Type 0
IsFaultOf device fault = (fault ≡ NoMemory) ⊎ (fault_of device ≡ Some fault)
