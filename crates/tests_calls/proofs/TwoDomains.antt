-- A world of two devices, of which the first has one upgrade.
use Rattle.std.proofs.Common.{◌≡◌, ℕ, zero, suc, List, [], ◌∷◌, length, Some, ap, sym, subst, ◌∙◌}
use Rattle.std.specs.Prelude.{slice_get}
use Rattle.std.proofs.lemmas.Option.{none-some, same_Some}
use Rattle.sal_rows.specs.declared.clash.Rules.{Rules}
use Rattle.sal_schema.specs.declared.table.SchemaTable.{SchemaTable}
use Rattle.sal_schema.specs.Versions.{Extends}
use Rattle.sal_schema.proofs.Stays.{extends-itself}
use Rattle.sal_history.specs.declared.opening.Device.{Device}
use Rattle.sal_history.specs.World.{AreVersions, Domain, IsChain}
use Rattle.sal_hub.specs.Openings.{AreClosedDevices, domain_of, world_of}
use Rattle.sal_hub.specs.Upgrades.{upgrades_of}
use Rattle.tests_calls.specs.Ready.{AreTwo, IsDomain}

module _ (rules : Rules) (table : SchemaTable) (own device : Device) (is : IsDomain table (table ∷ []) own) (other : IsDomain table [] device) where
  world : List Domain
  world = world_of rules (own ∷ device ∷ [])

  both_versions : AreVersions world
  unfolding world
  both_versions = record { chain = chain; only = only }
    where
      chain : (n : ℕ) (d : Domain) → slice_get (world_of rules (own ∷ device ∷ [])) n ≡ Some d → IsChain d.table d.upgrades
      chain zero d at =
          subst (λ (x : Domain). IsChain x.table x.upgrades) (same_Some (domain_of rules own) d at)
          (subst (λ (upgrades : List SchemaTable). IsChain own.schema.value upgrades) (sym is.versions) (subst (λ (t : SchemaTable). Extends table t) (sym is.schema) (extends-itself table), tt))
      chain (suc zero) d at =
          subst (λ (x : Domain). IsChain x.table x.upgrades) (same_Some (domain_of rules device) d at)
          (subst (λ (upgrades : List SchemaTable). IsChain device.schema.value upgrades) (sym other.versions) tt)
      chain (suc (suc n)) d at = absurd (none-some d at)

      only : (n : ℕ) (d : Domain) → slice_get (world_of rules (own ∷ device ∷ [])) (suc n) ≡ Some d → d.upgrades ≡ []
      only zero d at = subst (λ (x : Domain). x.upgrades ≡ []) (same_Some (domain_of rules device) d at) other.versions
      only (suc n) d at = absurd (none-some d at)

  pub two_versions : (devices : List Device) → devices ≡ own ∷ device ∷ [] → AreVersions (world_of rules devices)
  unfolding world
  two_versions devices two = subst (λ (ds : List Device). AreVersions (world_of rules ds)) (sym two) both_versions

  pub both_closed : (devices : List Device) → devices ≡ own ∷ device ∷ [] → AreClosedDevices devices
  both_closed devices two = subst AreClosedDevices (sym two) (is.closed, (other.closed, tt))

  pub one_upgrade : (devices : List Device) → devices ≡ own ∷ device ∷ [] → upgrades_of (world_of rules devices) ≡ 1
  one_upgrade devices two = ap (λ (ds : List Device). upgrades_of (world_of rules ds)) two ∙ ap length is.versions
