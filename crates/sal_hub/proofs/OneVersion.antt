-- A world of one device whose schema has one version.
use Rattle.std.proofs.Common.{◌≡◌, ℕ, zero, suc, List, [], ◌∷◌, Some, ap, sym, subst}
use Rattle.std.specs.Prelude.{slice_get}
use Rattle.std.proofs.lemmas.Option.{none-some, same_Some}
use Rattle.sal_rows.specs.declared.clash.Rules.{Rules}
use Rattle.sal_schema.specs.declared.table.SchemaTable.{SchemaTable}
use Rattle.sal_commit.specs.Versions.{tables_of}
use Rattle.sal_history.specs.declared.opening.Device.{Device}
use Rattle.sal_history.specs.World.{AreVersions, Domain, IsChain}
use Rattle.sal_hub.specs.Openings.{domain_of, world_of}

pub one_version : (rules : Rules) (device : Device) → device.upgrades.items ≡ [] → AreVersions (world_of rules (device ∷ []))
one_version rules device none = record { chain = chain; only = λ n d at. absurd (none-some d at) }
  where
    chain : (n : ℕ) (d : Domain) → slice_get (world_of rules (device ∷ [])) n ≡ Some d → IsChain d.table d.upgrades
    chain zero d at =
        subst (λ (x : Domain). IsChain x.table x.upgrades) (same_Some (domain_of rules device) d at)
        (subst (λ (upgrades : List SchemaTable). IsChain device.schema.value upgrades) (sym (ap tables_of none)) tt)
    chain (suc n) d at = absurd (none-some d at)

-- and so has a list of that device
pub alone_version : (rules : Rules) (device : Device) (devices : List Device) → devices ≡ device ∷ [] → device.upgrades.items ≡ [] → AreVersions (world_of rules devices)
alone_version rules device devices is none = subst (λ (ds : List Device). AreVersions (world_of rules ds)) (sym is) (one_version rules device none)
