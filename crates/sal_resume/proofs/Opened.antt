-- The world that a follower opens.
use Rattle.std.proofs.Common.{◌≡◌, inl, inr, ℕ, zero, suc, Bool, true, false, ◌||◌, ◌&&◌, not, cond, List, [], ◌∷◌, Some, None, refl, sym, subst, ◌∙◌, map}
use Rattle.std.specs.Prelude.{find, slice_get, Result, Ok, Err, MatchResult, IfErr, IfOk}
use Rattle.std.specs.Option.{option_map, option_or}
use Rattle.std.proofs.lemmas.Bool.{and_parts}
use Rattle.sal_types.specs.declared.row.Row.{Row}
use Rattle.sal_types.specs.declared.value.Store.{Store}
use Rattle.sal_types.specs.declared.value.Store.TheVariants.{Config, Oper}
use Rattle.sal_rows.specs.declared.clash.Rules.{Rules}
use Rattle.sal_rows.specs.declared.outcome.Breach.{Breach}
use Rattle.sal_schema.specs.declared.table.SchemaTable.{SchemaTable}
use Rattle.sal_schema.specs.Fitting.{is_closed, is_of_state}
use Rattle.sal_history.specs.declared.opening.Device.{Device}
use Rattle.sal_history.specs.World.{Domain, AreVersions, IsChain}
use Rattle.sal_hub.specs.declared.opening.OpenFault.{OpenFault}
use Rattle.sal_hub.specs.declared.opening.OpenFault.TheVariants.{NotConfig, Broken, NoMemory}
use Rattle.sal_hub.specs.HubHistory.{HubHistory}
use Rattle.sal_hub.specs.Openings.{AreClosedDevices, IsFaultOf, fault_of, state_row, world_of}
use Rattle.sal_follow.specs.Laws.{AreTreesAt, trees_held}
use Rattle.sal_follow.specs.States.{Following}
use Rattle.sal_follow.specs.Stream.{has_state, are_trees}
use Rattle.sal_follow.proofs.Followed.{streams_followed}
use Rattle.sal_resume.specs.Resumed.{domain_held, world_held, resumed, KeepsTheRules, OpensAtTheLeader}

pub opens-at : (rules : Rules) (f : Following) → OpensAtTheLeader f (world_held rules f)
opens-at rules f first trees bytes more all texts short came prefix = subst (λ h. AreTreesAt first trees h.version (trees_held h)) (sym came) (streams_followed f.schema first trees all texts short bytes more prefix).1

-- ---- the device of a follower

module _ (rules : Rules) (f : Following) (device : Device) (schema : device.schema.value ≡ f.schema) (upgrades : device.upgrades.items ≡ [])
    (opening : device.opening ≡ record { config = f.held.config; oper = f.held.oper }) where
  pub world-is : world_of rules (device ∷ []) ≡ world_held rules f
  world-is = λ i. record { table = schema i; upgrades = map (λ s. s.value) (upgrades i); opening = opening i; rules = rules } ∷ []

  pub closed-device : are_trees f.schema f.held.config f.held.oper ≡ true → AreClosedDevices (device ∷ [])
  closed-device good =
      let (first, oper) = and_parts (is_closed f.schema f.held.config && not (has_state f.schema f.held.config)) (is_closed f.schema f.held.oper) good in
      let (config, stateless) = and_parts (is_closed f.schema f.held.config) (not (has_state f.schema f.held.config)) first in (
        record {
          config = (λ i. is_closed (schema i) (opening i).config) ∙ config;
          oper = (λ i. is_closed (schema i) (opening i).oper) ∙ oper;
        },
        tt,
      )

pub versions-held : (rules : Rules) (f : Following) → AreVersions (world_held rules f)
versions-held rules f = record { chain = chain; only = only }
  where
    chain : (number : ℕ) (d : Domain) → slice_get (world_held rules f) number ≡ Some d → IsChain d.table d.upgrades
    chain zero d e = subst (λ (d : Domain). IsChain d.table d.upgrades) (same d e) tt
      where
        same : (d : Domain) → Some (domain_held rules f) ≡ Some d → domain_held rules f ≡ d
        same d e = cc
    chain (suc n) d e = absurd (nothing d e)
      where
        nothing : (d : Domain) → None ≡ Some d → ⊥
        nothing d e = cc

    only : (number : ℕ) (d : Domain) → slice_get (world_held rules f) (suc number) ≡ Some d → d.upgrades ≡ []
    only number d e = absurd (nothing d e)
      where
        nothing : (d : Domain) → None ≡ Some d → ⊥
        nothing d e = cc

-- ---- the only fault

none-found : (table : SchemaTable) (rows : List Row) → has_state table rows ≡ false → state_row table rows ≡ None
none-found table [] e = refl
none-found table (x ∷ rows) e =
    elim (is_of_state table x.path) as (λ b. (b || has_state table rows) ≡ false → option_map (λ (row : Row). row.path) (cond b (Some x) (find (λ (row : Row). is_of_state table row.path) rows)) ≡ None) [
      | true ↦ λ h. cc
      | false ↦ λ h. none-found table rows h
    ] e

not-true : (b : Bool) → not b ≡ true → b ≡ false
not-true true e = cc
not-true false e = refl

pub no-fault : (rules : Rules) (f : Following) → are_trees f.schema f.held.config f.held.oper ≡ true → KeepsTheRules f → fault_of (world_held rules f) ≡ None
no-fault rules f good keeps =
    let (first, oper) = and_parts (is_closed f.schema f.held.config && not (has_state f.schema f.held.config)) (is_closed f.schema f.held.oper) good in
    let (config, stateless) = and_parts (is_closed f.schema f.held.config) (not (has_state f.schema f.held.config)) first in
    let none = none-found f.schema f.held.config (not-true (has_state f.schema f.held.config) stateless) in
    λ i. option_or (option_or (option_map (NotConfig 0) (none i)) (option_or (option_map (broke Config) (keeps.config i)) (option_map (broke Oper) (keeps.oper i)))) None
  where
    broke : Store → Breach → OpenFault
    broke s b = Broken 0 s b

pub only-memory : (rules : Rules) (f : Following) (fault : OpenFault) → fault_of (world_held rules f) ≡ None → IsFaultOf (world_held rules f) fault → fault ≡ NoMemory
only-memory rules f fault none (inl full) = full
only-memory rules f fault none (inr found) = absurd (nothing (sym none ∙ found))
  where
    nothing : None ≡ Some fault → ⊥
    nothing e = cc

-- ---- what is opened

pub opened-so : (rules : Rules) (f : Following) (world : List Domain) (result : Result HubHistory OpenFault) → world ≡ world_held rules f
    → MatchResult result (λ (hub : HubHistory). (fault_of world ≡ None) × (hub ≡ record { world = world; log = [] })) (IsFaultOf world)
    → MatchResult result (λ (hub : HubHistory). hub ≡ resumed rules f) (IsFaultOf (world_held rules f))
opened-so rules f world (Ok hub) is told = told.1 ∙ (λ i. record { world = is i; log = [] })
opened-so rules f world (Err fault) is told = subst (λ (w : List Domain). IsFaultOf w fault) is told

module _ (rules : Rules) (f : Following) where
  pub whole-so : (result : Result HubHistory OpenFault) → are_trees f.schema f.held.config f.held.oper ≡ true → MatchResult result (λ (hub : HubHistory). hub ≡ resumed rules f) (IsFaultOf (world_held rules f)) → KeepsTheRules f
      → IfErr result (λ fault. fault ≡ NoMemory)
  whole-so (Ok hub) good told keeps = tt
  whole-so (Err fault) good told keeps = only-memory rules f fault (no-fault rules f good keeps) told

  pub leader-so : (result : Result HubHistory OpenFault) → MatchResult result (λ (hub : HubHistory). hub ≡ resumed rules f) (IsFaultOf (world_held rules f)) → IfOk result (λ (hub : HubHistory). OpensAtTheLeader f hub.world)
  leader-so (Ok hub) told = subst (λ (h : HubHistory). OpensAtTheLeader f h.world) (sym told) (opens-at rules f)
  leader-so (Err fault) told = tt
