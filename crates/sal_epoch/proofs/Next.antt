-- The newest trees, device by device.
use Rattle.std.proofs.Common.{◌≡◌, ℕ, zero, suc, ◌+◌, ◌-◌, ◌<◌, ◌≤◌, true, false, not, List, [], ◌∷◌, ◌++◌, length, take, Some, None, refl, ap, sym, subst, ◌∙◌, arith, append_assoc, append-nil, IsTrue}
use Rattle.std.specs.Prelude.{find, option_map, slice_get, if◌then◌else◌, ◌&&◌, Result, Ok, Err, IfOk}
use Rattle.std.specs.Option.{option_or}
use Rattle.std.proofs.lemmas.List.{take_all}
use Rattle.std.proofs.lemmas.Option.{none-some, same_Some}
use Rattle.sal_types.specs.declared.value.Store.{Store}
use Rattle.sal_types.specs.declared.value.Store.TheVariants.{Config, Oper}
use Rattle.sal_types.specs.declared.memory.NoMemory.{NoMemory}
use Rattle.sal_types.specs.declared.row.Row.{Row}
use Rattle.sal_types.specs.Tree.{under}
use Rattle.sal_rows.specs.declared.clash.Rules.{Rules}
use Rattle.sal_rows.specs.Commits.{tree_after}
use Rattle.sal_rows.specs.declared.outcome.Breach.{Breach}
use Rattle.sal_rows.proofs.Quiet.{no_map, or_none_first, or_none_second}
use Rattle.sal_rules.specs.Breaches.{breach}
use Rattle.sal_schema.specs.declared.table.SchemaTable.{SchemaTable}
use Rattle.sal_schema.specs.Fitting.{is_closed, is_of_state}
use Rattle.sal_history.specs.declared.opening.Device.{Device}
use Rattle.sal_history.specs.History.{commits, history, newest_tree}
use Rattle.sal_history.specs.Versions.{tables_now}
use Rattle.sal_history.specs.World.{AreVersions, Domain, IsChain, opening_of}
use Rattle.sal_history_laws.specs.Logs.{IsClosedLog}
use Rattle.sal_config_laws.specs.Configurations.{BeginWithoutState, is_config}
use Rattle.sal_config_laws.proofs.Stateless.{configurations_have_no_state}
use Rattle.sal_commit.specs.declared.domain.Domain.{Domain as Kept}
use Rattle.sal_commit.specs.Versions.{tables_of}
use Rattle.sal_hub.specs.Domains.{IsDomain}
use Rattle.sal_hub.specs.Epochs.{domains_from, next_domain, next_world}
use Rattle.sal_hub.specs.HubHistory.{HubHistory}
use Rattle.sal_hub.specs.declared.opening.OpenFault.{OpenFault}
use Rattle.sal_hub.specs.declared.opening.OpenFault.TheVariants.{Broken, NotConfig}
use Rattle.sal_hub.specs.Openings.{AreClosedDevices, IsClosedDevice, domain_of, state_row, opening_fault, fault_from, fault_of, broken}
use Rattle.sal_epoch.specs.Epochs.{AreStateless, HubsAreStateless, copied_domain, copied_world}

-- ---- the newest trees

-- they are closed
pub newest-closed : (known : HubHistory) (n : ℕ) (s : Store) → IsClosedLog known.world (history known.world known.log)
    → IsTrue (is_closed (tables_now known.world (history known.world known.log) n) (newest_tree known.world known.log n s))
newest-closed known n s closed =
    let answered = history known.world known.log in
    let whole : take (length (commits answered n)) (commits answered n) ≡ commits answered n = take_all (length (commits answered n)) (commits answered n) (omega arith) in
    subst (λ ops. IsTrue (is_closed (tables_now known.world answered n) (tree_after s (opening_of known.world n s) ops))) whole (closed.commits n (length (commits answered n)) s)

-- all rows are at the root or below it
pub under-root : (rows : List Row) → under rows [] ≡ rows
under-root [] = refl
under-root (row ∷ rows) = ap (λ rest. row ∷ rest) (under-root rows)

-- ---- devices

-- the device of the domain
pub device-is : (rules : Rules) (known : HubHistory) (n : ℕ) (device : Device) → device.schema.value ≡ tables_now known.world (history known.world known.log) n → device.upgrades.items ≡ []
    → device.opening.config ≡ newest_tree known.world known.log n Config → device.opening.oper ≡ newest_tree known.world known.log n Oper → domain_of rules device ≡ copied_domain rules known n
device-is rules known n device schema upgrades config oper = λ i. record { table = schema i; upgrades = tables_of (upgrades i); opening = record { config = config i; oper = oper i }; rules = rules }

pub device-closed : (known : HubHistory) (n : ℕ) (device : Device) → IsClosedLog known.world (history known.world known.log)
    → device.schema.value ≡ tables_now known.world (history known.world known.log) n
    → device.opening.config ≡ newest_tree known.world known.log n Config → device.opening.oper ≡ newest_tree known.world known.log n Oper → IsClosedDevice device
device-closed known n device closed schema config oper = record {
  config = (λ i. is_closed (schema i) (config i)) ∙ newest-closed known n Config closed;
  oper = (λ i. is_closed (schema i) (oper i)) ∙ newest-closed known n Oper closed;
}

-- the device of a domain
module _ (known : HubHistory) (n : ℕ) (domain : Kept) (is : IsDomain known n domain) where
  abbrev HasSchema : Device → Type 0
  HasSchema device = device.schema.value ≡ domain.schema.value

  abbrev HasTree : (Device → List Row) → Store → Device → Type 0
  HasTree of s device = of device ≡ newest_tree known.world known.log domain.number s

  abbrev config_of : Device → List Row
  config_of device = device.opening.config

  abbrev oper_of : Device → List Row
  oper_of device = device.opening.oper

  by-number : (s : Store) → newest_tree known.world known.log domain.number s ≡ newest_tree known.world known.log n s
  by-number s = ap (λ k. newest_tree known.world known.log k s) is.number

  pub next-so : (result : Result Device NoMemory) → IfOk result HasSchema → IfOk result (λ device. device.upgrades.items ≡ []) → IfOk result (HasTree config_of Config) → IfOk result (HasTree oper_of Oper)
      → IfOk result (λ (device : Device). (rules : Rules) → domain_of rules device ≡ copied_domain rules known n)
  next-so (Ok device) schema upgrades config oper = λ rules. device-is rules known n device (schema ∙ is.schema) upgrades (config ∙ by-number Config) (oper ∙ by-number Oper)
  next-so (Err e) schema upgrades config oper = tt

  pub closed-so : (result : Result Device NoMemory) → IsClosedLog known.world (history known.world known.log) → IfOk result HasSchema → IfOk result (HasTree config_of Config) → IfOk result (HasTree oper_of Oper) → IfOk result IsClosedDevice
  closed-so (Ok device) closed schema config oper = device-closed known n device closed (schema ∙ is.schema) (config ∙ by-number Config) (oper ∙ by-number Oper)
  closed-so (Err e) closed schema config oper = tt

pub closed-more : (ds : List Device) (d : Device) → AreClosedDevices ds → IsClosedDevice d → AreClosedDevices (ds ++ d ∷ [])
closed-more [] d all here = (here, tt)
closed-more (x ∷ ds) d all here = (all.0, closed-more ds d all.1 here)

-- one device more
pub next-step : (rules : Rules) (known : HubHistory) (done more whole : List Domain) (i : ℕ) → i < length known.world → more ≡ done ++ copied_domain rules known i ∷ []
    → done ++ domains_from (copied_domain rules known) i (length known.world - i) ≡ whole → more ++ domains_from (copied_domain rules known) (i + 1) (length known.world - (i + 1)) ≡ whole
next-step rules known done more whole i inside is so =
    let rest : length known.world - i ≡ suc (length known.world - (i + 1)) = omega (arith, inside) in
    ap (λ ds. ds ++ domains_from (copied_domain rules known) (i + 1) (length known.world - (i + 1))) is
    ∙ append_assoc done (copied_domain rules known i ∷ []) (domains_from (copied_domain rules known) (i + 1) (length known.world - (i + 1)))
    ∙ ap (λ k. done ++ domains_from (copied_domain rules known) i k) (sym rest)
    ∙ so

pub next-end : (rules : Rules) (known : HubHistory) (done whole : List Domain) (i : ℕ) → length known.world ≤ i → done ++ domains_from (copied_domain rules known) i (length known.world - i) ≡ whole → done ≡ whole
next-end rules known done whole i past so =
    let none : length known.world - i ≡ 0 = omega (arith, past) in
    sym (append-nil done) ∙ ap (λ k. done ++ domains_from (copied_domain rules known) i k) (sym none) ∙ so

pub next-start : (rules : Rules) (known : HubHistory) → domains_from (copied_domain rules known) 0 (length known.world - 0) ≡ copied_world rules known
next-start rules known = let all : length known.world - 0 ≡ length known.world = omega arith in ap (domains_from (copied_domain rules known) 0) all

pub next-length : (rules : Rules) (known : HubHistory) (n count : ℕ) → length (domains_from (copied_domain rules known) n count) ≡ count
next-length rules known n zero = refl
next-length rules known n (suc count) = ap suc (next-length rules known (n + 1) count)

-- ---- versions

-- each domain has one version
alone : (rules : Rules) (known : HubHistory) (n count k : ℕ) (d : Domain) → slice_get (domains_from (copied_domain rules known) n count) k ≡ Some d → d.upgrades ≡ []
alone rules known n zero k d at = absurd (none-some d at)
alone rules known n (suc count) zero d at = ap (λ (x : Domain). x.upgrades) (sym (same_Some (copied_domain rules known n) d at))
alone rules known n (suc count) (suc k) d at = alone rules known (n + 1) count k d at

chain-of : (d : Domain) → d.upgrades ≡ [] → IsChain d.table d.upgrades
chain-of d none = subst (λ us. IsChain d.table us) (sym none) tt

pub next-versions : (rules : Rules) (known : HubHistory) → AreVersions (copied_world rules known)
next-versions rules known = record {
  chain = λ k d at. chain-of d (alone rules known 0 (length known.world) k d at);
  only = λ k d at. alone rules known 0 (length known.world) (suc k) d at;
}

-- ---- the only faults

module _ (rules : Rules) (known : HubHistory) where
  abbrev pub KeepsRules : Type 0
  KeepsRules = (n : ℕ) (s : Store) → n < length known.world → breach (tables_now known.world (history known.world known.log) n) s (newest_tree known.world known.log n s) ≡ None

  no-fault : (n : ℕ) → n < length known.world → KeepsRules → AreStateless known → opening_fault n (copied_domain rules known n) ≡ None
  no-fault n inside keeps stateless =
      λ i. option_or (option_map (NotConfig n) (stateless n inside i)) (option_or (option_map (broke Config) (keeps n Config inside i)) (option_map (broke Oper) (keeps n Oper inside i)))
    where
      broke : Store → Breach → OpenFault
      broke s b = Broken n s b

  no-faults : (n count : ℕ) → n + count ≤ length known.world → KeepsRules → AreStateless known → fault_from n (domains_from (copied_domain rules known) n count) ≡ None
  no-faults n zero inside keeps stateless = refl
  no-faults n (suc count) inside keeps stateless =
      ap (λ o. option_or o (fault_from (n + 1) (domains_from (copied_domain rules known) (n + 1) count))) (no-fault n (omega (arith, inside)) keeps stateless) ∙ no-faults (n + 1) count (omega (arith, inside)) keeps stateless

  pub no-fault-of : KeepsRules → AreStateless known → fault_of (copied_world rules known) ≡ None
  no-fault-of keeps stateless = no-faults 0 (length known.world) (omega arith) keeps stateless

-- the next world has the same faults
same-faults : (rules : Rules) (known : HubHistory) (n count : ℕ) → fault_from n (domains_from (next_domain rules known) n count) ≡ fault_from n (domains_from (copied_domain rules known) n count)
same-faults rules known n zero = refl
same-faults rules known n (suc count) = ap (option_or (opening_fault n (copied_domain rules known n))) (same-faults rules known (n + 1) count)

pub next-fault-of : (rules : Rules) (known : HubHistory) → fault_of (next_world rules known) ≡ fault_of (copied_world rules known)
next-fault-of rules known = same-faults rules known 0 (length known.world)

-- ---- no state data

-- rows of which none is of state, and the first that is
no_row : (table : SchemaTable) (rows : List Row) → is_config table rows ≡ true → state_row table rows ≡ None
no_row table [] all = refl
no_row table (row ∷ rows) all =
    elim (is_of_state table row.path) as (λ b. (not b && is_config table rows) ≡ true → option_map (λ (x : Row). x.path) (if b then Some row else find (λ (x : Row). is_of_state table x.path) rows) ≡ None) [
      | true ↦ λ h. cc
      | false ↦ λ h. no_row table rows h
    ] all

row_none : (table : SchemaTable) (rows : List Row) → find (λ (x : Row). is_of_state table x.path) rows ≡ None → is_config table rows ≡ true
row_none table [] none = refl
row_none table (row ∷ rows) none =
    elim (is_of_state table row.path) as (λ b. (if b then Some row else find (λ (x : Row). is_of_state table x.path) rows) ≡ None → (not b && is_config table rows) ≡ true) [
      | true ↦ λ h. cc
      | false ↦ λ h. row_none table rows h
    ] none

-- openings that are not refused
begin-from : (n : ℕ) (world : List Domain) (k : ℕ) (d : Domain) → fault_from n world ≡ None → slice_get world k ≡ Some d → is_config d.table d.opening.config ≡ true
begin-from n [] k d none at = absurd (none-some d at)
begin-from n (x ∷ world) zero d none at =
    let here : opening_fault n x ≡ None = or_none_first (opening_fault n x) (fault_from (n + 1) world) none in
    let state : option_map (NotConfig n) (state_row x.table x.opening.config) ≡ None = or_none_first (option_map (NotConfig n) (state_row x.table x.opening.config)) (option_or (broken n x Config) (broken n x Oper)) here in
    let free : is_config x.table x.opening.config ≡ true =
    row_none x.table x.opening.config (no_map (λ (row : Row). row.path) (find (λ (row : Row). is_of_state x.table row.path) x.opening.config) (no_map (NotConfig n) (state_row x.table x.opening.config) state)) in
    subst (λ (y : Domain). is_config y.table y.opening.config ≡ true) (same_Some x d at) free
begin-from n (x ∷ world) (suc k) d none at = begin-from (n + 1) world k d (or_none_second (opening_fault n x) (fault_from (n + 1) world) none) at

pub hubs-stateless : HubsAreStateless
hubs-stateless known sound lawful none n inside =
    let answered = history known.world known.log in
    let table = tables_now known.world answered n in
    let begin : BeginWithoutState known.world = λ k d at. begin-from 0 known.world k d none at in
    let whole : take (length (commits answered n)) (commits answered n) ≡ commits answered n = take_all (length (commits answered n)) (commits answered n) (omega arith) in
    no_row table (newest_tree known.world known.log n Config)
    (subst (λ ops. is_config table (tree_after Config (opening_of known.world n Config) ops) ≡ true) whole (configurations_have_no_state known.world known.log sound begin lawful n (length (commits answered n))))
