-- A broker that is opened, and a seat from which no other was split yet.
use Rattle.std.specs.Prelude.{◌≡◌, true, List, [], ◌∷◌}
use Rattle.sal_broker.specs.Seats.{SeatView}
use Rattle.sal_history.specs.World.{Domain}
use Rattle.sal_rows.specs.declared.clash.Rules.{Rules}
use Rattle.sal_schema.specs.declared.table.SchemaTable.{SchemaTable}

-- the opening seat of a broker: it may split, and only its own number is given
pub record IsOpening (v : SeatView) : Type 0 where
  pub number : v.number ≡ 65535
  pub may_split : v.splits ≡ true
  pub given : v.given ≡ 65535 ∷ []

-- the world of one domain, the controller's own, whose schema has one version, and which has no data
abbrev pub empty_world : SchemaTable → Rules → List Domain
empty_world table rules = record { table = table; upgrades = []; opening = record { config = []; oper = [] }; rules = rules } ∷ []
