-- What was read at a path that was read is an operation for the schema, and what was read of an opening is whole.
use Rattle.std.proofs.Common.{◌≡◌, ℕ, zero, suc, true, false, List, [], ◌∷◌, Some, Result, Ok, Err, IsTrue, refl, subst, arith}
use Rattle.std.specs.Prelude.{slice_get}
use Rattle.std.proofs.lemmas.Bool.{not-true}
use Rattle.std.proofs.lemmas.Option.{same_Some}
use Rattle.sal_types.specs.declared.value.Step.{Step}
use Rattle.sal_types.specs.declared.value.Step.TheVariants.{Node, Key, Item}
use Rattle.sal_types.specs.declared.row.Row.{Row}
use Rattle.sal_rows.specs.declared.op.Act.{Act}
use Rattle.sal_rows.specs.declared.op.Act.TheVariants.{Put as PutAct, Merge as MergeAct}
use Rattle.sal_rows.specs.Apply.{rows_of_act}
use Rattle.serde_json.specs.Data.{Data}
use Rattle.sal_json_laws.specs.Json.{is_json}
use Rattle.sal_json_laws.proofs.Tested.{tests_json}
use Rattle.sal_schema.specs.declared.table.SchemaTable.{SchemaTable}
use Rattle.sal_schema.specs.Valid.{IsTable}
use Rattle.sal_schema.specs.Fitting.{fits, is_in_message}
use Rattle.sal_schema.specs.Kinds.{is_message}
use Rattle.sal_schema.specs.Table.{is_kind}
use Rattle.sal_data.specs.Read.{read_data}
use Rattle.sal_data.proofs.ReadWhole.{reads_whole}
use Rattle.sal_pathtext.specs.Laws.{IsDataPath, begins_with_data}
use Rattle.sal_pathtext.proofs.ReadPaths.{read-is_data}
use Rattle.sal_script.proofs.Given.{Given, given_then}
use Rattle.sal_script.specs.JsonScripts.{AreJsonDevices, IsJsonDevice, is_json_act}
use Rattle.sal_script.specs.Script.{DeviceParts}
use Rattle.sal_script.specs.Laws.{HasWholeOpenings, OpeningsAreWhole, WritesAreForSchema, own}
use Rattle.sal_script.proofs.JsonRead.{scripts_are_json}
use Rattle.sal_script.specs.Play.{DataAct, putting, merging, deleting, act_of}

given_from : {A F : Type 0} (P : A → Type 0) (r : Result A F) → ((x : A) → r ≡ Ok x → P x) → Given P r
given_from P (Ok x) h = h x refl
given_from P (Err e) h = tt

module _ (table : SchemaTable) where
  outside : (path : List Step) → begins_with_data table path ≡ true → is_in_message table path ≡ false
  outside [] e = refl
  outside (Node n ∷ path) e = not-true (is_kind is_message table n) e
  outside (Key values ∷ path) e = refl
  outside (Item value ∷ path) e = refl

  module _ (good : IsTable table) (path : List Step) (data_path : IsDataPath table path) where
    abbrev Fits : List Row → Type 0
    Fits rows = IsTrue (fits table path rows)

    abbrev Suits : Act → Type 0
    Suits act = Fits (rows_of_act act)

    value_fits : (value : Data) → IsTrue (is_json value) → Given Fits (read_data table path value)
    value_fits value is = given_from Fits (read_data table path value) (λ rows e. (reads_whole table good path data_path.fits data_path.short value ((tests_json value).0 is) rows e).fitting)

    act_fits : (data_act : DataAct) → IsTrue (is_json_act data_act) → Given Suits (act_of table path data_act)
    act_fits (putting value) is = given_then Fits Suits (read_data table path value) (λ rows. Ok (PutAct rows)) (value_fits value is) (λ rows x. x)
    act_fits (merging value) is = given_then Fits Suits (read_data table path value) (λ rows. Ok (MergeAct rows)) (value_fits value is) (λ rows x. x)
    act_fits deleting is = refl

pub writes_are_for_schema : WritesAreForSchema
writes_are_for_schema table good store text path read data_act is act made =
    let data_path = read-is_data table good text path read in
    record {
      path = data_path.fits;
      data_path = outside table path data_path.of_data;
      rows = subst (Given (λ (a : Act). IsTrue (fits table path (rows_of_act a)))) made (act_fits table good path data_path data_act is);
    }

whole_openings : (table : SchemaTable) → IsTable table → (device : DeviceParts) → IsJsonDevice device → HasWholeOpenings table device
whole_openings table good device is rows = (reads_whole table good [] refl (omega arith) device.config is.config rows, reads_whole table good [] refl (omega arith) device.operational is.operational rows)

device_at : (devices : List DeviceParts) → AreJsonDevices devices → (i : ℕ) (device : DeviceParts) → slice_get devices i ≡ Some device → IsJsonDevice device
device_at [] are i device at = cc
device_at (d ∷ devices) are zero device at = subst IsJsonDevice (same_Some d device at) are.0
device_at (d ∷ devices) are (suc i) device at = device_at devices are.1 i device at

pub openings_are_whole : OpeningsAreWhole
openings_are_whole table good bytes parts read =
    let is = scripts_are_json bytes parts read in
    (whole_openings table good (own parts) (record { config = is.config; operational = is.operational }), λ i device at. whole_openings table good device (device_at parts.devices is.devices i device at))
