-- Which opening trees are refused, and why: the first device is checked first, and of a device state data in its configuration, then
-- a breach in its configuration, then one in its operational tree.
use Rattle.std.specs.Prelude.{◌≡◌, ◌⊎◌, ℕ, ◌+◌, IsTrue, List, [], ◌∷◌, find, map, Option, None, Some}
use Rattle.std.specs.List.{AllByRecursion}
use Rattle.std.specs.Option.{option_map, option_or}
use Rattle.sal_types.specs.declared.value.Store.{Store}
use Rattle.sal_types.specs.declared.value.Store.TheVariants.{Config, Oper}
use Rattle.sal_types.specs.declared.value.Step.{Step}
use Rattle.sal_types.specs.declared.row.Row.{Row}
use Rattle.sal_rows.specs.declared.clash.Rules.{Rules}
use Rattle.sal_schema.specs.declared.table.SchemaTable.{SchemaTable}
use Rattle.sal_schema.specs.Fitting.{is_closed, is_of_state}
use Rattle.sal_rules.specs.Breaches.{breach}
use Rattle.sal_history.specs.declared.opening.Device.{Device}
use Rattle.sal_history.specs.World.{Domain, tree_of_opening}
use Rattle.sal_commit.specs.Versions.{tables_of}
use Rattle.sal_commit.specs.declared.fault.DomainFault.{DomainFault}
use Rattle.sal_commit.specs.declared.fault.DomainFault.TheVariants.{Broken as Breaks, NoMemory as Full}
use Rattle.sal_hub.specs.declared.opening.OpenFault.{OpenFault}
use Rattle.sal_hub.specs.declared.opening.OpenFault.TheVariants.{NotConfig, Broken, NoMemory}

-- the world of devices under version rules
abbrev pub domain_of : Rules → Device → Domain
domain_of rules device = record { table = device.schema.value; upgrades = tables_of device.upgrades.items; opening = device.opening; rules = rules }

abbrev pub world_of : Rules → List Device → List Domain
world_of rules devices = map (domain_of rules) devices

-- both opening trees of a device fit at the root by version 0 of its schema, and so are closed by it
pub record IsClosedDevice (device : Device) : Type 0 where
  pub config : IsTrue (is_closed device.schema.value device.opening.config)
  pub oper : IsTrue (is_closed device.schema.value device.opening.oper)

abbrev pub AreClosedDevices : List Device → Type 0
AreClosedDevices devices = AllByRecursion IsClosedDevice devices

-- the path of the first row of a state node
abbrev pub state_row : SchemaTable → List Row → Option (List Step)
state_row table rows = option_map (λ (row : Row). row.path) (find (λ (row : Row). is_of_state table row.path) rows)

abbrev pub broken : ℕ → Domain → Store → Option OpenFault
broken n d s = option_map (Broken n s) (breach d.table s (tree_of_opening d.opening s))

-- the fault of the device with this number
abbrev pub numbered : ℕ → DomainFault → OpenFault
numbered n (Breaks s breach) = Broken n s breach
numbered n Full = NoMemory

-- why the openings of the device with this number are refused
abbrev pub opening_fault : ℕ → Domain → Option OpenFault
opening_fault n d = option_or (option_map (NotConfig n) (state_row d.table d.opening.config)) (option_or (broken n d Config) (broken n d Oper))

-- why those of these devices are refused, numbered from n on
abbrev pub fault_from : ℕ → List Domain → Option OpenFault
fault_from n [] = None
fault_from n (d ∷ ds) = option_or (opening_fault n d) (fault_from (n + 1) ds)

abbrev pub fault_of : List Domain → Option OpenFault
fault_of world = fault_from 0 world

abbrev pub IsFaultOf : List Domain → OpenFault → Type 0
IsFaultOf world fault = (fault ≡ NoMemory) ⊎ (fault_of world ≡ Some fault)
