-- Trees read from an opening are closed.
use Rattle.std.proofs.Common.{◌≡◌, ◌&&◌, ℕ, ◌+◌, ◌<◌, ◌≤◌, zero, suc, List, [], ◌∷◌, length, map, Option, None, Some, Result, Ok, Err, refl, subst, arith, IsTrue}
use Rattle.std.specs.Prelude.{All, slice_get, unwrap_or}
use Rattle.std.proofs.lemmas.Bool.{and_parts}
use Rattle.std.proofs.lemmas.Option.{none-some, same_Some}
use Rattle.serde_json.specs.Data.{Data}
use Rattle.serde_json.specs.View.{view}
use Rattle.sal_types.specs.Reading.{◌>>=◌}
use Rattle.sal_types.specs.declared.row.Row.{Row}
use Rattle.sal_types.specs.declared.value.Store.{Store}
use Rattle.sal_types.specs.declared.value.Store.TheVariants.{Config, Oper}
use Rattle.sal_rows.specs.declared.clash.Rules.{Rules}
use Rattle.sal_schema.specs.declared.table.SchemaTable.{SchemaTable}
use Rattle.sal_schema.specs.Fitting.{is_closed}
use Rattle.sal_schema.specs.Valid.{IsTable}
use Rattle.sal_json_laws.specs.Json.{IsJson, is_json}
use Rattle.sal_json_laws.specs.Laws.{TestsJson}
use Rattle.sal_data.specs.declared.fault.DataFault.{DataFault}
use Rattle.sal_data.specs.Laws.{ReadsWhole}
use Rattle.sal_data.specs.Read.{read_data}
use Rattle.sal_history_laws.specs.Logs.{AreSound, IsSound}
use Rattle.sal_history.specs.declared.opening.Device.{Device}
use Rattle.sal_history.specs.declared.opening.Opening.{Opening}
use Rattle.sal_history.specs.World.{Domain, IsChain, tree_of_opening, version_from}
use Rattle.sal_history.proofs.Versions.{chain-at}
use Rattle.sal_history_laws.specs.Lawful.{AreClosed}
use Rattle.sal_hub.specs.declared.opening.OpenFault.{OpenFault}
use Rattle.sal_hub.specs.Openings.{AreClosedDevices, domain_of, fault_of, world_of}
use Rattle.sal_script.specs.JsonScripts.{AreJsonDevices, IsJsonDevice}
use Rattle.sal_script.specs.declared.script.Script.{Script}
use Rattle.sal_script.specs.declared.script.ScriptDevice.{ScriptDevice}
use Rattle.sal_script.specs.Tables.{first_among, first_in, later_among, versions_in}
use Rattle.sal_client.specs.Lists.{alone, begun_with, from_version, versions_by}
use Rattle.sal_script.specs.Reading.{devices, parts}
use Rattle.sal_script.specs.Script.{DeviceParts}
use Rattle.sal_prepare.specs.Each.{each_from}
use Rattle.sal_prepare.specs.Openings.{AreChains, IsChained, WorldsAreSound}
use Rattle.sal_versions.specs.Versions.{AreInOrder}
use Rattle.sal_prepare.specs.Scripted.{domain_with, domains_of, opened, opening_by, opening_rows, opening_trees, or_opening, or_refused}
use Rattle.sal_prepare.specs.declared.status.Status.{Status}
use Rattle.sal_versions.proofs.Bound.{bind_ok, same_ok}

-- ---- the data of a script

module _ (tests : TestsJson) where
  both_json : (config oper : Data) → IsTrue (is_json config && is_json oper) → IsJson config × IsJson oper
  both_json config oper is =
      let tested = and_parts (is_json config) (is_json oper) is in
      ((tests config).0 tested.0, (tests oper).0 tested.1)

  device_json : (device : ScriptDevice) → IsJsonDevice (record { modules = device.modules; config = view device.config; operational = view device.operational })
  device_json device =
      let is = both_json (view device.config) (view device.operational) device.opening in
      record { config = is.0; operational = is.1 }

  devices_json : (ds : List ScriptDevice) → AreJsonDevices (devices ds)
  devices_json [] = tt
  devices_json (device ∷ ds) = (device_json device, devices_json ds)

  pub domains_json : (script : Script) → AreJsonDevices (domains_of (parts script))
  domains_json script =
      let is = both_json (view script.config) (view script.operational) script.opening in
      (record { config = is.0; operational = is.1 }, devices_json script.devices)

-- ---- versions

table_sound : (t : SchemaTable) (ts : List SchemaTable) → All IsTable (t ∷ ts) → (v : ℕ) → IsTable (version_from t ts v)
table_sound t [] all v = all 0 t (omega (arith))
table_sound t (next ∷ ts) all zero = all 0 t (omega (arith))
table_sound t (next ∷ ts) all (suc v) = table_sound next ts (λ i d inside. all (suc i) d (omega (arith, inside))) v

tables_sound : (versions : List SchemaTable) → IsChained versions → (v : ℕ) → IsTable (version_from (first_among versions) (later_among versions) v)
tables_sound [] is v = absurd (omega (arith, is.some))
tables_sound (t ∷ ts) is v = table_sound t ts is.tables v

first_sound : (versions : List SchemaTable) → IsChained versions → IsTable (first_among versions)
first_sound [] is = absurd (omega (arith, is.some))
first_sound (t ∷ ts) is = is.tables 0 t (omega (arith))

pub both_closed : (table : SchemaTable) (o : Opening) → IsTrue (is_closed table o.config) → IsTrue (is_closed table o.oper) → AreClosed table (tree_of_opening o)
both_closed table o config oper Config = config
both_closed table o config oper Oper = oper

-- the versions of all domains, where those of domain 0 are in order and each device has one
pub chained : (own devices : List SchemaTable) → 1 ≤ length own → All IsTable own → AreInOrder own → All IsTable devices → AreChains (versions_by own devices)
chained own devices some tables order others = record {
  each = λ n inside. by n inside;
  only = alone_later devices;
}
  where
    in_chain : (t : SchemaTable) (ts : List SchemaTable) → AreInOrder (t ∷ ts) → IsChain t ts
    in_chain t [] is = tt
    in_chain t (next ∷ ts) is = (is.0, in_chain next ts is.1)

    own_chained : (own : List SchemaTable) → 1 ≤ length own → All IsTable own → AreInOrder own → IsChained own
    own_chained [] some tables order = absurd (omega (arith, some))
    own_chained (t ∷ ts) some tables order = record { some = some; tables = tables; chain = in_chain t ts order }

    alone_later : (devices : List SchemaTable) (n : ℕ) → later_among (unwrap_or (slice_get (map alone devices) n) []) ≡ []
    alone_later [] n = refl
    alone_later (t ∷ ts) zero = refl
    alone_later (t ∷ ts) (suc n) = alone_later ts n

    device_chained : (devices : List SchemaTable) → All IsTable devices → (n : ℕ) → n < length (map alone devices) → IsChained (unwrap_or (slice_get (map alone devices) n) [])
    device_chained [] others n inside = absurd (omega (arith, inside))
    device_chained (t ∷ ts) others zero inside = record { some = omega (arith); tables = one t (others 0 t (omega (arith))); chain = tt }
      where
        one : (t : SchemaTable) → IsTable t → All IsTable (t ∷ [])
        one t is zero d within = is
        one t is (suc i) d within = absurd (omega (arith, within))
    device_chained (t ∷ ts) others (suc n) inside = device_chained ts (λ i d within. others (suc i) d (omega (arith, within))) n (omega (arith, inside))

    by : (n : ℕ) → n < length (versions_by own devices) → IsChained (versions_in (versions_by own devices) n)
    by zero inside = own_chained own some tables order
    by (suc n) inside = device_chained devices others n (omega (arith, inside))

-- ---- the opening trees that are read

module _ (reads : ReadsWhole) where
  rows_closed : (n : ℕ) (table : SchemaTable) (s : Store) (json : Data) (rows : List Row) → IsTable table → IsJson json → opening_rows n table s json ≡ Ok rows → IsTrue (is_closed table rows)
  rows_closed n table s json rows good text made = by (read_data table [] json) refl made
    where
      by : (r : Result (List Row) DataFault) → read_data table [] json ≡ r → or_opening n table s r ≡ Ok rows → IsTrue (is_closed table rows)
      by (Ok read) is e = subst (λ (x : List Row). IsTrue (is_closed table x)) (same_ok e) (reads table good [] refl (omega arith) json text read is).fitting
      by (Err fault) is e = cc

  module _ (tables : List (List SchemaTable)) (good : AreChains tables) where
    -- one domain
    domain_sound : (rules : Rules) (n : ℕ) (x : DeviceParts) (d : Domain) → n < length tables → IsJsonDevice x → opening_by rules tables n x ≡ Ok d → IsSound d
    domain_sound rules n x d inside json made =
        let versions = versions_in tables n in
        let table = first_among versions in
        let is = good.each n inside in
        let own = first_sound versions is in
        let both : List Row → List Row → Result Opening Status = λ config oper. Ok (record { config = config; oper = oper }) in
        let (opening, read, last) = bind_ok (opening_trees n table x) (λ (o : Opening). Ok (domain_with rules versions o)) d made in
        let (config, first, rest) = bind_ok (opening_rows n table Config x.config) (λ config. opening_rows n table Oper x.operational >>= both config) opening read in
        let (oper, second, end) = bind_ok (opening_rows n table Oper x.operational) (both config) opening rest in
        let closed : AreClosed table (tree_of_opening opening) =
        subst (λ (o : Opening). AreClosed table (tree_of_opening o)) (same_ok end)
        (both_closed table (record { config = config; oper = oper }) (rows_closed n table Config x.config config own json.config first) (rows_closed n table Oper x.operational oper own json.operational second)) in
        subst IsSound (same_ok last) (record {
          tables = tables_sound versions is;
          chain = λ v. chain-at table (later_among versions) v is.chain;
          opening = closed;
        })

    -- the domains from number n on
    pub all_sound : (rules : Rules) (n : ℕ) (xs : List DeviceParts) (ds : List Domain) → n + length xs ≤ length tables → AreJsonDevices xs → each_from (opening_by rules tables) n xs ≡ Ok ds → AreSound ds
    all_sound rules n [] ds room json made = subst AreSound (same_ok made) (λ k d at. absurd (none-some d at))
    all_sound rules n (x ∷ xs) ds room json made =
        let (y, here, rest) = bind_ok (opening_by rules tables n x) (λ y. each_from (opening_by rules tables) (n + 1) xs >>= (λ ys. Ok (y ∷ ys))) ds made in
        let (ys, later, last) = bind_ok (each_from (opening_by rules tables) (n + 1) xs) (λ ys. Ok (y ∷ ys)) ds rest in
        let first : IsSound y = domain_sound rules n x y (omega (arith, room)) json.0 here in
        let others : AreSound ys = all_sound rules (n + 1) xs ys (omega (arith, room)) json.1 later in
        subst AreSound (same_ok last) (by y ys first others)
      where
        by : (y : Domain) (ys : List Domain) → IsSound y → AreSound ys → AreSound (y ∷ ys)
        by y ys first others zero d at = subst IsSound (same_Some y d at) first
        by y ys first others (suc k) d at = others k d at

  pub worlds_are_sound : WorldsAreSound
  worlds_are_sound rules domains tables world json room good made =
      let (ds, read, rest) = bind_ok (each_from (opening_by rules tables) 0 domains) opened world made in
      subst AreSound (unrefused ds (fault_of ds) rest) (all_sound tables good rules 0 domains ds (omega (arith, room)) json read)
    where
      unrefused : (ds : List Domain) (o : Option OpenFault) → or_refused ds o ≡ Ok world → ds ≡ world
      unrefused ds None e = same_ok e
      unrefused ds (Some fault) e = cc

-- a domain with closed trees, and then others
pub on_sound : (tables : List (List SchemaTable)) → AreChains tables → 0 < length tables → (rules : Rules) (o : Opening) (ds : List Domain) → IsTrue (is_closed (first_in tables 0) o.config) → IsTrue (is_closed (first_in tables 0) o.oper)
    → AreSound ds → AreSound (domain_with rules (versions_in tables 0) o ∷ ds)
on_sound tables good inside rules o ds config oper others = by
  where
    first : IsSound (domain_with rules (versions_in tables 0) o)
    first = record {
      tables = tables_sound (versions_in tables 0) (good.each 0 inside);
      chain = λ v. chain-at (first_in tables 0) (later_among (versions_in tables 0)) v (good.each 0 inside).chain;
      opening = both_closed (first_in tables 0) o config oper;
    }

    by : (k : ℕ) (d : Domain) → slice_get (domain_with rules (versions_in tables 0) o ∷ ds) k ≡ Some d → IsSound d
    by zero d at = subst IsSound (same_Some (domain_with rules (versions_in tables 0) o) d at) first
    by (suc k) d at = others k d at

-- the later versions of a domain are versions too
chained_on : (versions : List SchemaTable) (v : ℕ) → IsChained versions → IsChained (from_version v versions)
chained_on [] zero is = is
chained_on [] (suc v) is = is
chained_on (t ∷ ts) zero is = is
chained_on (t ∷ []) (suc v) is = is
chained_on (t ∷ next ∷ ts) (suc v) is = chained_on (next ∷ ts) v (record { some = omega (arith); tables = λ i d within. is.tables (suc i) d (omega (arith, within)); chain = is.chain.1 })

-- and so are those of all domains, with the later ones of domain 0
pub chains_on : (tables : List (List SchemaTable)) (v : ℕ) → AreChains tables → AreChains (begun_with v tables)
chains_on [] v good = good
chains_on (own ∷ devices) v good = record { each = each; only = good.only }
  where
    each : (n : ℕ) → n < length (from_version v own ∷ devices) → IsChained (versions_in (from_version v own ∷ devices) n)
    each zero within = chained_on own v (good.each 0 (omega (arith)))
    each (suc n) within = good.each (suc n) within

-- the same for the devices of the world
pub closed_devices : (rules : Rules) (devices : List Device) → AreSound (world_of rules devices) → AreClosedDevices devices
closed_devices rules [] sound = tt
closed_devices rules (device ∷ devices) sound =
    let first = sound 0 (domain_of rules device) refl in
    (record { config = first.opening Config; oper = first.opening Oper }, closed_devices rules devices (λ k domain at. sound (suc k) domain at))
