-- A broker just opened, and the devices that it is opened with.
use Rattle.std.specs.Prelude.{◌≡◌, true, [], ◌∷◌, List}
use Rattle.sal_broker.specs.Seats.{known}
use Rattle.sal_commit.specs.Versions.{tables_of}
use Rattle.sal_history.specs.World.{Domain}
use Rattle.sal_history.specs.declared.call.Entry.{Entry}
use Rattle.sal_history.specs.declared.opening.Device.{Device}
use Rattle.sal_hub.specs.Openings.{IsClosedDevice}
use Rattle.sal_hub.specs.Upgrades.{upgrades_of}
use Rattle.sal_schema.specs.declared.table.SchemaTable.{SchemaTable}
use Rattle.sal_turn.specs.Seats.{Place, TableId}

-- the device has no rows, and these versions of its schema after the first
pub record IsDomain (table : SchemaTable) (upgrades : List SchemaTable) (device : Device) : Type 0 where
  pub closed : IsClosedDevice device
  pub schema : device.schema.value ≡ table
  pub versions : tables_of device.upgrades.items ≡ upgrades

-- the controller's own domain, whose schema has a second version that is the first one again, and one more
abbrev pub AreTwo : SchemaTable → List Device → Type 0
AreTwo table devices = (own other : Device) × (devices ≡ own ∷ other ∷ []) × IsDomain table (table ∷ []) own × IsDomain table [] other

-- the seat is the opening one of the lock, before any call and any other seat, and the controller's own domain has a second version
pub record IsOpened (turn : TableId) (seat : Place Entry (List Domain)) : Type 0 where
  pub lock : seat.lock ≡ turn
  pub upgrades : upgrades_of (known seat.view).world ≡ 1
  pub may_split : seat.view.splits ≡ true
  pub given : seat.view.given ≡ 65535 ∷ []
