-- The domains that devices open, and what is refused.
use Rattle.std.proofs.Common.{◌≡◌, ℕ, zero, suc, ◌+◌, ◌≤◌, Bool, true, false, not, ◌&&◌, ◌||◌, nat_eq, List, [], ◌∷◌, length, Option, None, Some, refl, ap, sym, ◌∙◌, subst, arith, inl, inr, ◌⊎◌, if◌then◌else◌}
use Rattle.std.specs.Prelude.{All, IsTrue, slice_get}
use Rattle.std.specs.List.{AllByRecursion}
use Rattle.std.specs.Option.{option_map, option_map_or, option_or}
use Rattle.std.proofs.lemmas.Bool.{cases_lt}
use Rattle.std.proofs.lemmas.List.{length-map}
use Rattle.std.proofs.lemmas.Bool.Decides.{nat_tests}
use Rattle.std.proofs.lemmas.List.Elements.{recursion_from_All}
use Rattle.std.proofs.lemmas.Option.{none-some, same_Some}
use Rattle.sal_types.specs.declared.value.Store.{Store}
use Rattle.sal_types.specs.declared.value.Store.TheVariants.{Config, Oper}
use Rattle.sal_schema.specs.Valid.{IsTable}
use Rattle.sal_rules.specs.Breaches.{breach}
use Rattle.sal_rows.specs.declared.clash.Rules.{Rules}
use Rattle.sal_rows.specs.declared.outcome.Breach.{Breach}
use Rattle.sal_tree.specs.declared.commit.Commit.{Commit}
use Rattle.sal_graft.specs.Kept.{chains_of, ops_of}
use Rattle.sal_commit.specs.declared.fault.DomainFault.{DomainFault}
use Rattle.sal_commit.specs.declared.fault.DomainFault.TheVariants.{Broken as Breaks, NoMemory as Full}
use Rattle.sal_commit.specs.Opening.{fault_of as domain_fault}
use Rattle.sal_history.specs.declared.opening.Device.{Device}
use Rattle.sal_commit.specs.Versions.{tables_of}
use Rattle.sal_schema.specs.Fitting.{is_closed}
use Rattle.sal_history.specs.World as world
use Rattle.sal_history.specs.World.{AreVersions, IsChain, OneIsUpgraded}
use Rattle.sal_history.proofs.Versions.{at-version, chain-at, first-version, table-in}
use Rattle.sal_history_laws.specs.Logs.{AreSound, IsSound}
use Rattle.sal_hub.specs.declared.opening.OpenFault.{OpenFault}
use Rattle.sal_hub.specs.declared.opening.OpenFault.TheVariants.{Broken, NotConfig, NoMemory}
use Rattle.sal_hub.specs.declared.pipeline.Pipeline.{Pipeline}
use Rattle.sal_hub.specs.Current.{IsCurrent, IsKept, number_of}
use Rattle.sal_hub.specs.Failures.{noted_in}
use Rattle.sal_hub.specs.Journals.{Noted}
use Rattle.sal_hub.specs.PipelineView.{AllKept, PipelineView, DomainView, is_live_in, opened_as, queue_of, table_in, world_in}
use Rattle.sal_hub.specs.Opened.{AreFirst, HaveTables, IsFirst, shown_from, shown_of}
use Rattle.sal_hub.proofs.Deciding.{live-here, table-at, version-here, world-at}
use Rattle.sal_hub.proofs.Listed.{slice_get_none, slice_get_some}
use Rattle.sal_hub.specs.Openings.{AreClosedDevices, IsClosedDevice, domain_of, numbered, opening_fault, state_row, world_of}

-- ---- one device

module _ (rules : Rules) (n : ℕ) (device : Device) where
  abbrev state : Option OpenFault
  state = option_map (NotConfig n) (state_row device.schema.value device.opening.config)

  abbrev breach_in : Store → Option Breach
  breach_in s = breach device.schema.value s (world.tree_of_opening device.opening s)

  -- the fault of the domain is that of its opening, by the device's number
  same_fault : (config oper : Option Breach) → option_or (option_map (Broken n Config) config) (option_map (Broken n Oper) oper) ≡ option_map (numbered n) (option_or (option_map (Breaks Config) config) (option_map (Breaks Oper) oper))
  same_fault None None = refl
  same_fault None (Some b) = refl
  same_fault (Some b) oper = refl

  module _ (none : state_row device.schema.value device.opening.config ≡ None) where
    by_domain : opening_fault n (domain_of rules device) ≡ option_map (numbered n) (domain_fault device)
    by_domain =
        ap (λ p. option_or (option_map (NotConfig n) p) (option_or (option_map (Broken n Config) (breach_in Config)) (option_map (Broken n Oper) (breach_in Oper)))) none
        ∙ same_fault (breach_in Config) (breach_in Oper)

    pub no_fault : domain_fault device ≡ None → opening_fault n (domain_of rules device) ≡ None
    no_fault h = by_domain ∙ ap (option_map (numbered n)) h

    pub some_fault : (e : DomainFault) → (e ≡ Full) ⊎ (domain_fault device ≡ Some e) → (numbered n e ≡ NoMemory) ⊎ (opening_fault n (domain_of rules device) ≡ Some (numbered n e))
    some_fault e h = elim h [ inl w ↦ inl (ap (numbered n) w) | inr w ↦ inr (by_domain ∙ ap (option_map (numbered n)) w) ]

-- no commit has no chain
pub no_chains : (cs : List Commit) → ops_of cs ≡ [] → chains_of cs ≡ []
no_chains [] none = refl
no_chains (c ∷ []) none = refl
no_chains (c ∷ d ∷ cs) none = cc

-- ---- all devices

pub world-shown : (rules : Rules) (n : ℕ) (devices : List Device) → world_in (shown_from rules n devices) ≡ world_of rules devices
world-shown rules n [] = refl
world-shown rules n (device ∷ devices) = ap (λ (ds : List world.Domain). domain_of rules device ∷ ds) (world-shown rules (n + 1) devices)

length-shown : (rules : Rules) (n : ℕ) (devices : List Device) → length (shown_from rules n devices) ≡ length devices
length-shown rules n [] = refl
length-shown rules n (device ∷ devices) = ap suc (length-shown rules (n + 1) devices)

shown_at : (rules : Rules) (n : ℕ) (devices : List Device) (k : ℕ) (d : DomainView) → slice_get (shown_from rules n devices) k ≡ Some d → IsFirst (n + k) d
shown_at rules n [] k d e = cc
shown_at rules n (device ∷ devices) zero d e =
    let here : n ≡ n + 0 = omega arith in
    subst (IsFirst (n + 0)) (same_Some (shown_of rules n device) d e) (record { number = here; live = ap (λ k. nat_eq k 0) here; table = refl; version = refl; ops = refl; chains = refl; receipts = refl })
shown_at rules n (device ∷ devices) (suc k) d e = let next : n + 1 + k ≡ n + suc k = omega arith in subst (λ m. IsFirst m d) next (shown_at rules (n + 1) devices k d e)

-- the domains that devices open
pub shown_first : (rules : Rules) (devices : List Device) → 1 ≤ length devices → AreFirst (shown_from rules 0 devices)
shown_first rules devices some = record {
  some = omega (arith, some, length-shown rules 0 devices);
  each = λ n d at. let same : 0 + n ≡ n = omega arith in subst (λ m. IsFirst m d) same (shown_at rules 0 devices n d at);
}

-- the versions of a device have tables of schemas and extend each other, and its opening trees are closed by version 0
sound_device : (rules : Rules) (device : Device) → HaveTables device → IsClosedDevice device → IsChain device.schema.value (tables_of device.upgrades.items) → IsSound (domain_of rules device)
sound_device rules device tables closed chain = record {
  tables = λ v. at-version IsTable device.schema.value (tables_of device.upgrades.items) v tables.first (recursion_from_All IsTable (tables_of device.upgrades.items) tables.upgrades);
  chain = λ v. chain-at device.schema.value (tables_of device.upgrades.items) v chain;
  opening = by;
}
  where
    by : (s : Store) → IsTrue (is_closed device.schema.value (world.tree_of_opening device.opening s))
    by Config = closed.config
    by Oper = closed.oper

-- devices with closed opening trees give sound openings
sound_openings : (rules : Rules) (devices : List Device) → AllByRecursion HaveTables devices → AreClosedDevices devices
    → ((k : ℕ) (d : world.Domain) → slice_get (world_of rules devices) k ≡ Some d → IsChain d.table d.upgrades) → AreSound (world_of rules devices)
sound_openings rules [] tables closed chains k domain at = absurd (none-some domain at)
sound_openings rules (device ∷ devices) tables closed chains zero domain at =
    subst IsSound (same_Some (domain_of rules device) domain at) (sound_device rules device tables.0 closed.0 (chains 0 (domain_of rules device) refl))
sound_openings rules (device ∷ devices) tables closed chains (suc k) domain at = sound_openings rules devices tables.1 closed.1 (λ j d at_j. chains (suc j) d at_j) k domain at

pub are_sound : (rules : Rules) (devices : List Device) → All HaveTables devices → AreClosedDevices devices → AreVersions (world_of rules devices) → AreSound (world_of rules devices)
are_sound rules devices tables closed versions = sound_openings rules devices (recursion_from_All HaveTables devices tables) closed versions.chain

none_later : (k : ℕ) → 0 ≡ number_of 0 k
none_later k = elim (nat_eq k 0) as (λ b. ◌≡◌ {A = ℕ} 0 (if b then 0 else 0)) [ true ↦ refl | false ↦ refl ]

or_none : (b : Bool) → b ≡ (b || (false && not false))
or_none true = refl
or_none false = refl

-- only the controller's own domain is live
first-live : (ds : List DomainView) (n : ℕ) → AreFirst ds → is_live_in ds n ≡ nat_eq n 0
first-live ds n first = elim (cases_lt n (length ds)) [
  | inl low ↦ let (d, at) = slice_get_some ds n low in live-here ds n d at ∙ (first.each n d at).live
  | inr high ↦
      let other : nat_eq n 0 ≡ false = grind (arith, nat_tests, first.some, high) in
      ap (λ (o : Option DomainView). option_map_or (λ (d : DomainView). d.live) o false) (slice_get_none ds n high) ∙ sym other
]

-- each domain is at version 0
first-table : (ds : List DomainView) (n : ℕ) → AreFirst ds → table_in ds n ≡ world.table_of (world_in ds) 0 n
first-table ds n first = elim (cases_lt n (length ds)) [
  | inl low ↦
      let (d, at) = slice_get_some ds n low in
      table-at ds n d at ∙ (first.each n d at).table ∙ sym (first-version d.first d.upgrades) ∙ sym (table-in (world_in ds) n 0 (opened_as d) (world-at ds n d at))
  | inr high ↦
      let long : length ds ≡ length (world_in ds) = sym (length-map ds opened_as) in
      let none : slice_get (world_in ds) n ≡ None = slice_get_none (world_in ds) n (omega (arith, high, long)) in
      ap (λ (o : Option DomainView). option_map_or (λ (d : DomainView). d.table) o world.no_table) (slice_get_none ds n high) ∙ sym (no-table-at (world_in ds) n 0 none)
]
  where
    no-table-at : (w : List world.Domain) (n v : ℕ) → slice_get w n ≡ None → world.table_of w v n ≡ world.no_table
    no-table-at [] n v none = refl
    no-table-at (x ∷ w) zero v none = cc
    no-table-at (x ∷ w) (suc n) v none = no-table-at w n v none

-- the invariants of a hub without calls
pub first_kept : (p : Pipeline) (journal : Noted) → AreFirst (queue_of p).domains → AreSound (world_in (queue_of p).domains) → OneIsUpgraded (world_in (queue_of p).domains) → AllKept p.domains.items
    → p.gone ≡ 0 → p.waiting.items ≡ [] → p.outcomes.items ≡ [] → p.failures.items ≡ [] → journal ≡ record { log = []; marks = [] } → IsKept journal p
first_kept p journal first sound only kept zeroth none undecided unopened empty =
    let ds : List DomainView = (queue_of p).domains in
    let queue : PipelineView = record { domains = (queue_of p).domains; gone = 0; waiting = []; outcomes = []; failures = [] } in
    let start : IsCurrent [] [] queue = record {
      sound = record {
        some = first.some;
        within = omega arith;
        behind = omega arith;
        domains = λ n d at. let it = first.each n d at in record { number = it.number; commits = it.ops; chains = it.chains; receipts = it.receipts };
        waiting = refl;
        standing = λ i s at. cc;
        numbers = λ i s at. cc;
        failures = no_failure;
      };
      outcomes = refl;
      marks = λ place. refl;
      chains = refl;
      live = λ n. first-live ds n first ∙ or_none (nat_eq n 0);
      lawful = λ i s at. cc;
      writers = λ k a t at. cc;
      openings = sound;
      only = only;
      tables = λ n. first-table ds n first;
      versions = λ n low. (let (d, at) = slice_get_some ds n low in version-here ds n d at ∙ (first.each n d at).version ∙ none_later n);
    } in
    let same : ◌≡◌ {A = PipelineView} queue (queue_of p) = λ i. record { domains = (queue_of p).domains; gone = sym zeroth i; waiting = sym none i; outcomes = sym undecided i; failures = sym unopened i } in
    record {
      kept = kept;
      current = subst (λ (j : Noted). IsCurrent j.log j.marks (queue_of p)) (sym empty) (subst (IsCurrent [] []) same start);
      let_go = zeroth ∙ ap length (sym undecided);
    }
  where
    no_failure : (k : ℕ) → noted_in [] k ≡ None
    no_failure zero = refl
    no_failure (suc k) = refl
