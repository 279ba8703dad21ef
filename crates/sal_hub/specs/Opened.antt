-- The domains that devices open, under version rules: the controller's own is live. Each is at version 0 of its schema.
use Rattle.std.specs.Prelude.{◌≡◌, ℕ, ◌+◌, ◌≤◌, All, List, [], ◌∷◌, Some, length, nat_eq, slice_get}
use Rattle.sal_rows.specs.declared.clash.Rules.{Rules}
use Rattle.sal_commit.specs.Opening.{opening_of_device}
use Rattle.sal_commit.specs.Versions.{tables_of}
use Rattle.sal_schema.specs.Valid.{IsTable}
use Rattle.sal_history.specs.declared.opening.Device.{Device}
use Rattle.sal_hub.specs.PipelineView.{DomainView}

abbrev pub shown_of : Rules → ℕ → Device → DomainView
shown_of rules n device = record {
  number = n;
  live = nat_eq n 0;
  table = device.schema.value;
  first = device.schema.value;
  upgrades = tables_of device.upgrades.items;
  version = 0;
  since = 0;
  rules = rules;
  opening = opening_of_device device;
  ops = [];
  chains = [];
  receipts = 0 ∷ [];
}

-- each version's table is one of a schema
pub record HaveTables (device : Device) : Type 0 where
  pub first : IsTable device.schema.value
  pub upgrades : All IsTable (tables_of device.upgrades.items)

-- numbered from n on
abbrev pub shown_from : Rules → ℕ → List Device → List DomainView
shown_from rules n [] = []
shown_from rules n (device ∷ devices) = shown_of rules n device ∷ shown_from rules (n + 1) devices

-- ---- domains without commits

-- the domain of this number at version 0 of its schema, without commits
pub record IsFirst (n : ℕ) (d : DomainView) : Type 0 where
  pub number : d.number ≡ n
  pub live : d.live ≡ nat_eq n 0
  pub table : d.table ≡ d.first
  pub version : d.version ≡ 0
  pub ops : d.ops ≡ []
  pub chains : d.chains ≡ []
  pub receipts : d.receipts ≡ 0 ∷ []

-- at least one, and each of them is so
pub record AreFirst (ds : List DomainView) : Type 0 where
  pub some : 1 ≤ length ds
  pub each : (n : ℕ) (d : DomainView) → slice_get ds n ≡ Some d → IsFirst n d
