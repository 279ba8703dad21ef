-- The world of opening trees: the tables of its domains, and the domain that is refused.
use Rattle.std.proofs.Common.{◌≡◌, ℕ, ◌+◌, ◌<◌, ◌≤◌, zero, suc, List, [], ◌∷◌, length, drop, map, Option, None, Some, Result, Ok, Err, refl, ap, sym, ◌∙◌, subst, arith, inl, inr}
use Rattle.std.proofs.lemmas.List.{drop_all}
use Rattle.std.proofs.lemmas.Option.{none-some, same_Some}
use Rattle.std.specs.Prelude.{IfOk, slice_get}
use Rattle.std.specs.Option.{option_map, option_or}
use Rattle.sal_types.specs.Reading.{◌>>=◌}
use Rattle.sal_types.specs.declared.value.Step.{Step}
use Rattle.sal_types.specs.declared.value.Store.TheVariants.{Config, Oper}
use Rattle.sal_rows.specs.declared.outcome.Breach.{Breach}
use Rattle.sal_rows.specs.declared.clash.Rules.{Rules}
use Rattle.sal_schema.specs.declared.table.SchemaTable.{SchemaTable}
use Rattle.sal_rules.specs.Breaches.{breach}
use Rattle.sal_history.specs.declared.opening.Opening.{Opening}
use Rattle.sal_history.specs.World.{AreVersions, Domain, IsChain, table_of, tree_of_opening, version_in}
use Rattle.sal_history.proofs.Versions.{first-version}
use Rattle.sal_hub.specs.declared.opening.OpenFault.{OpenFault}
use Rattle.sal_hub.specs.declared.opening.OpenFault.TheVariants.{NotConfig, Broken, NoMemory as NoHub}
use Rattle.sal_hub.specs.HubHistory.{HubHistory}
use Rattle.sal_hub.specs.Openings.{IsFaultOf, fault_from, fault_of, opening_fault, state_row}
use Rattle.sal_script.specs.Tables.{first_among, first_in, last_among, later_among, tables_of, versions_in, versions_of}
use Rattle.sal_script.specs.Script.{DeviceParts}
use Rattle.sal_prepare.specs.declared.status.Status.{Status}
use Rattle.sal_prepare.specs.declared.status.Status.TheVariants.{Done, BadWords, ReadFault, WriteFault, TooLong, BadScript, BadSchema, BadOpening, BadOrder, NoMemory, NoPart, BadStream, BadExport}
use Rattle.sal_prepare.specs.Each.{each_from}
use Rattle.sal_prepare.specs.Openings.{AreChains}
use Rattle.sal_prepare.specs.Scripted.{Comes, IsRefusal, IsStatusOf, domain_in, domain_with, opened, opening_by, opening_trees, or_refused, refused_as, refused_text}
use Rattle.sal_versions.proofs.Bound.{bind_ok, same_ok}
use Rattle.sal_prepare.proofs.Each.{each_long}

-- ---- tables

at_within : (ds : List Domain) (k : ℕ) (d : Domain) → slice_get ds k ≡ Some d → k < length ds
at_within [] k d at = absurd (none-some d at)
at_within (x ∷ ds) zero d at = omega (arith)
at_within (x ∷ ds) (suc k) d at = let rest = at_within ds k d at in omega (arith, rest)

-- version 0 of a domain is that of its number
pub table_same : (world : List Domain) (n : ℕ) → first_in (versions_of world) n ≡ table_of world 0 n
table_same [] n = refl
table_same (d ∷ ds) zero = sym (first-version d.table d.upgrades)
table_same (d ∷ ds) (suc n) = table_same ds n

-- the last of all versions
pub last_tables : (world : List Domain) → map last_among (versions_of world) ≡ tables_of world
last_tables [] = refl
last_tables (d ∷ ds) = ap (λ (ts : List SchemaTable). version_in d (length d.upgrades) ∷ ts) (last_tables ds)

-- the domain of this number has its versions
pub opened_with : (rules : Rules) (tables : List (List SchemaTable)) (n : ℕ) (x : DeviceParts) (d : Domain) → opening_by rules tables n x ≡ Ok d → d ≡ domain_with rules (versions_in tables n) d.opening
opened_with rules tables n x d made =
    let versions = versions_in tables n in
    let read = bind_ok (opening_trees n (first_among versions) x) (λ (o : Opening). Ok (domain_with rules versions o)) d made in
    subst (λ (y : Domain). y ≡ domain_with rules versions y.opening) (same_ok read.2) refl

-- and a non-empty list of versions is the whole list
versions_with : (rules : Rules) (versions : List SchemaTable) (d : Domain) → 1 ≤ length versions → d ≡ domain_with rules versions d.opening → (d.table ∷ d.upgrades) ≡ versions
versions_with rules [] d some is = absurd (omega (arith, some))
versions_with rules (t ∷ ts) d some is = ap (λ (y : Domain). y.table ∷ y.upgrades) is

from_table_by : (tables : List (List SchemaTable)) (n : ℕ) → n < length tables → drop n tables ≡ versions_in tables n ∷ drop (suc n) tables
from_table_by [] n within = absurd (omega (arith, within))
from_table_by (t ∷ ts) zero within = refl
from_table_by (t ∷ ts) (suc n) within = from_table_by ts n (omega (arith, within))

from_table : (tables : List (List SchemaTable)) (n : ℕ) → n < length tables → drop n tables ≡ versions_in tables n ∷ drop (n + 1) tables
from_table tables n within = let next : suc n ≡ n + 1 = omega (arith) in from_table_by tables n within ∙ ap (λ k. versions_in tables n ∷ drop k tables) next

-- the domains from number n on have the versions from there on
pub tables_from : (rules : Rules) (tables : List (List SchemaTable)) → AreChains tables → (n : ℕ) (xs : List DeviceParts) (ds : List Domain) → n + length xs ≡ length tables
    → each_from (opening_by rules tables) n xs ≡ Ok ds → versions_of ds ≡ drop n tables
tables_from rules tables good n [] ds all made = sym (ap versions_of (same_ok made)) ∙ sym (drop_all n tables (omega (arith, all)))
tables_from rules tables good n (x ∷ xs) ds all made =
    let first = bind_ok (opening_by rules tables n x) (λ y. each_from (opening_by rules tables) (n + 1) xs >>= (λ more. Ok (y ∷ more))) ds made in
    let rest = bind_ok (each_from (opening_by rules tables) (n + 1) xs) (λ more. Ok (first.0 ∷ more)) ds first.2 in
    let versions = versions_in tables n in
    let within : n < length tables = omega (arith, all) in
    let own : (first.0.table ∷ first.0.upgrades) ≡ versions = versions_with rules versions first.0 (good.each n within).some (opened_with rules tables n x first.0 first.1) in
    let others : versions_of rest.0 ≡ drop (n + 1) tables = tables_from rules tables good (n + 1) xs rest.0 (omega (arith, all)) rest.1 in
    sym (ap versions_of (same_ok rest.2))
    ∙ ap (λ (u : List SchemaTable). u ∷ versions_of rest.0) own
    ∙ ap (λ (us : List (List SchemaTable)). versions ∷ us) others
    ∙ sym (from_table tables n within)

-- each of these domains has the versions of its number
domain_from : (rules : Rules) (tables : List (List SchemaTable)) (n : ℕ) (xs : List DeviceParts) (ds : List Domain) (k : ℕ) (d : Domain) → each_from (opening_by rules tables) n xs ≡ Ok ds → slice_get ds k ≡ Some d
    → d ≡ domain_with rules (versions_in tables (n + k)) d.opening
domain_from rules tables n [] ds k d made at = absurd (none-some d (ap (λ (ys : List Domain). slice_get ys k) (same_ok made) ∙ at))
domain_from rules tables n (x ∷ xs) ds k d made at =
    let first = bind_ok (opening_by rules tables n x) (λ y. each_from (opening_by rules tables) (n + 1) xs >>= (λ more. Ok (y ∷ more))) ds made in
    let rest = bind_ok (each_from (opening_by rules tables) (n + 1) xs) (λ more. Ok (first.0 ∷ more)) ds first.2 in
    by k first.0 rest.0 (opened_with rules tables n x first.0 first.1) (λ j here. domain_from rules tables (n + 1) xs rest.0 j d rest.1 here) (ap (λ (ys : List Domain). slice_get ys k) (same_ok rest.2) ∙ at)
  where
    by : (k : ℕ) → (y : Domain) (ys : List Domain) → y ≡ domain_with rules (versions_in tables n) y.opening → ((j : ℕ) → slice_get ys j ≡ Some d → d ≡ domain_with rules (versions_in tables (n + 1 + j)) d.opening)
        → slice_get (y ∷ ys) k ≡ Some d → d ≡ domain_with rules (versions_in tables (n + k)) d.opening
    by zero y ys own later at =
        let there : n ≡ n + 0 = omega (arith) in
        subst (λ (m : ℕ). d ≡ domain_with rules (versions_in tables m) d.opening) there (subst (λ (z : Domain). z ≡ domain_with rules (versions_in tables n) z.opening) (same_Some y d at) own)
    by (suc k) y ys own later at =
        let there : n + 1 + k ≡ n + suc k = omega (arith) in
        subst (λ (m : ℕ). d ≡ domain_with rules (versions_in tables m) d.opening) there (later k at)

-- numbered from the first one on
domain_at : (rules : Rules) (tables : List (List SchemaTable)) (xs : List DeviceParts) (ds : List Domain) (k : ℕ) (d : Domain) → each_from (opening_by rules tables) 0 xs ≡ Ok ds → slice_get ds k ≡ Some d
    → d ≡ domain_with rules (versions_in tables k) d.opening
domain_at rules tables xs ds k d made at =
    let same : 0 + k ≡ k = omega (arith) in
    subst (λ (m : ℕ). d ≡ domain_with rules (versions_in tables m) d.opening) same (domain_from rules tables 0 xs ds k d made at)

-- so the world has versions
pub versions_are : (rules : Rules) (tables : List (List SchemaTable)) → AreChains tables → (xs : List DeviceParts) (ds : List Domain) → length xs ≤ length tables → each_from (opening_by rules tables) 0 xs ≡ Ok ds → AreVersions ds
versions_are rules tables good xs ds room made = record {
  chain = λ k d at.
      let inside : k < length ds = at_within ds k d at in
      let long = each_long (opening_by rules tables) 0 xs ds made in
      let is = domain_at rules tables xs ds k d made at in
      subst (λ (y : Domain). IsChain y.table y.upgrades) (sym is) (good.each k (omega (arith, inside, long, room))).chain;
  only = λ k d at. ap (λ (y : Domain). y.upgrades) (domain_at rules tables xs ds (suc k) d made at) ∙ good.only k;
}

-- ---- a domain before the others

module _ (rules : Rules) (tables : List (List SchemaTable)) (good : AreChains tables) (o : Opening) (xs : List DeviceParts) (ds : List Domain) (all : 1 + length xs ≡ length tables) (made : each_from (opening_by rules tables) 1 xs ≡ Ok ds) where
  there : (k : ℕ) (d : Domain) → slice_get ds k ≡ Some d → d ≡ domain_with rules (versions_in tables (suc k)) d.opening
  there k d at =
      let same : 1 + k ≡ suc k = omega (arith) in
      subst (λ (m : ℕ). d ≡ domain_with rules (versions_in tables m) d.opening) same (domain_from rules tables 1 xs ds k d made at)

  pub versions_on : AreVersions (domain_with rules (versions_in tables 0) o ∷ ds)
  versions_on = record { chain = chain; only = λ k d at. ap (λ (y : Domain). y.upgrades) (there k d at) ∙ good.only k }
    where
      chain : (k : ℕ) (d : Domain) → slice_get (domain_with rules (versions_in tables 0) o ∷ ds) k ≡ Some d → IsChain d.table d.upgrades
      chain zero d at = subst (λ (y : Domain). IsChain y.table y.upgrades) (same_Some (domain_with rules (versions_in tables 0) o) d at) (good.each 0 (omega (arith, all))).chain
      chain (suc k) d at =
          let inside : k < length ds = at_within ds k d at in
          let long = each_long (opening_by rules tables) 1 xs ds made in
          subst (λ (y : Domain). IsChain y.table y.upgrades) (sym (there k d at)) (good.each (suc k) (omega (arith, inside, long, all))).chain

  pub tables_on : versions_of (domain_with rules (versions_in tables 0) o ∷ ds) ≡ tables
  tables_on =
      let some = (good.each 0 (omega (arith, all))).some in
      ap (λ (us : List (List SchemaTable)). (first_among (versions_in tables 0) ∷ later_among (versions_in tables 0)) ∷ us) (tables_from rules tables good 1 xs ds all made)
      ∙ ap (λ (u : List SchemaTable). u ∷ drop 1 tables) (versions_with rules (versions_in tables 0) (domain_with rules (versions_in tables 0) o) some refl)
      ∙ sym (from_table_by tables 0 (omega (arith, all)))

-- a world that is not refused is kept
kept : (world made : List Domain) (o : Option OpenFault) → or_refused world o ≡ Ok made → world ≡ made
kept world made None is = same_ok is
kept world made (Some fault) is = cc

-- and so are its tables
pub tables_kept : (tables : List (List SchemaTable)) (world : List Domain) (result : Result HubHistory Status) → tables ≡ versions_of world → Comes (λ (hub : HubHistory). hub.world) (opened world) result
    → IfOk result (λ (hub : HubHistory). tables ≡ versions_of hub.world)
tables_kept tables world (Ok hub) same comes = same ∙ ap versions_of (kept world hub.world (fault_of world) comes)
tables_kept tables world (Err status) same comes = tt

-- ---- refusals

no_text : (readers : List (List SchemaTable)) (text : List ℕ) → refused_text (first_in readers (domain_in NoHub)) NoHub ≡ Some text → ⊥
no_text readers text is = cc

some_is : {X : Type 0} {a b : X} → (let o : Option X = Some a in o) ≡ Some b → a ≡ b
some_is e = cc

named : (n : ℕ) (path : Option (List Step)) (config oper : Option Breach) (fault : OpenFault)
    → option_or (option_map (NotConfig n) path) (option_or (option_map (Broken n Config) config) (option_map (Broken n Oper) oper)) ≡ Some fault → domain_in fault ≡ n
named n (Some p) config oper fault is = sym (ap domain_in (some_is is))
named n None (Some b) oper fault is = sym (ap domain_in (some_is is))
named n None None (Some b) fault is = sym (ap domain_in (some_is is))
named n None None None fault is = cc

by_first : (n : ℕ) (d : Domain) (long : ℕ) (fault : OpenFault) (o rest : Option OpenFault) → opening_fault n d ≡ o → option_or o rest ≡ Some fault
    → (rest ≡ Some fault → domain_in fault < n + 1 + long) → domain_in fault < n + suc long
by_first n d long fault None rest none is later = let behind = later is in omega (arith, behind)
by_first n d long fault (Some f) rest own is later =
    let here = named n (state_row d.table d.opening.config) (breach d.table Config (tree_of_opening d.opening Config)) (breach d.table Oper (tree_of_opening d.opening Oper)) f own in
    let same : domain_in fault ≡ n = sym (ap domain_in (some_is is)) ∙ here in
    omega (arith, same)

-- the domain that is refused is one of the world
pub refused_within : (n : ℕ) (ds : List Domain) (fault : OpenFault) → fault_from n ds ≡ Some fault → domain_in fault < n + length ds
refused_within n [] fault is = cc
refused_within n (d ∷ ds) fault is = by_first n d (length ds) fault (opening_fault n d) (fault_from (n + 1) ds) refl is (refused_within (n + 1) ds fault)

pub fault_within : (world : List Domain) (fault : OpenFault) → 1 ≤ length world → IsFaultOf world fault → domain_in fault < length world
fault_within world fault some (inl none) = subst (λ (f : OpenFault). domain_in f < length world) (sym none) some
fault_within world fault some (inr is) = let within = refused_within 0 world fault is in omega (arith, within)

-- the status of a refusal is that of the opening
pub refusal_comes : (readers : List (List SchemaTable)) (world : List Domain) (fault : OpenFault) (status : Status) → readers ≡ versions_of world → IsFaultOf world fault
    → IsRefusal readers fault status → IsStatusOf (opened world) status
refusal_comes readers world fault NoMemory same is told = tt
refusal_comes readers world fault (BadOpening text) same (inl none) told =
    absurd (no_text readers text (subst (λ (f : OpenFault). refused_text (first_in readers (domain_in f)) f ≡ Some text) none told))
refusal_comes readers world fault (BadOpening text) same (inr is) told =
    let own : table_of world 0 (domain_in fault) ≡ first_in readers (domain_in fault) =
    sym (ap (λ (ts : List (List SchemaTable)). first_in ts (domain_in fault)) same ∙ table_same world (domain_in fault)) in
    ap (or_refused world) is ∙ ap (λ (t : SchemaTable). Err (refused_as (refused_text t fault))) own ∙ ap (λ (o : Option (List ℕ)). Err (refused_as o)) told
refusal_comes readers world fault Done same is told = absurd told
refusal_comes readers world fault BadWords same is told = absurd told
refusal_comes readers world fault ReadFault same is told = absurd told
refusal_comes readers world fault WriteFault same is told = absurd told
refusal_comes readers world fault TooLong same is told = absurd told
refusal_comes readers world fault (BadScript place) same is told = absurd told
refusal_comes readers world fault (BadSchema n text) same is told = absurd told
refusal_comes readers world fault (BadOrder index) same is told = absurd told
refusal_comes readers world fault NoPart same is told = absurd told
refusal_comes readers world fault (BadStream text) same is told = absurd told
refusal_comes readers world fault (BadExport commit) same is told = absurd told
