-- The own domain before the others.
use Rattle.std.proofs.Common.{◌≡◌, ℕ, ◌+◌, suc, true, List, ◌∷◌, drop, length, Option, None, Ok, ap, sym, ◌∙◌, subst, arith}
use Rattle.std.proofs.lemmas.List.{length-map}
use Rattle.std.specs.declared.alloc.Global.{Global}
use Rattle.std.specs.declared.sync.Arc.{Arc}
use Rattle.sal_schema.specs.declared.table.SchemaTable.{SchemaTable}
use Rattle.sal_rows.specs.declared.clash.Rules.{Rules}
use Rattle.sal_history.specs.World.{AreVersions, Domain}
use Rattle.sal_history.specs.declared.opening.Opening.{Opening}
use Rattle.sal_history_laws.specs.Logs.{AreSound}
use Rattle.sal_hub.specs.Openings.{domain_of, world_of}
use Rattle.sal_script.specs.Reading.{parts}
use Rattle.sal_script.specs.Script.{DeviceParts}
use Rattle.sal_script.specs.Tables.{versions_in, versions_of}
use Rattle.sal_client.specs.Lists.{alone}
use Rattle.sal_prepare.specs.Each.{each_from}
use Rattle.sal_prepare.specs.Openings.{AreChains}
use Rattle.sal_prepare.specs.Resumed.{OthersAreSound, are_fitting, with_own, with_openings}
use Rattle.sal_prepare.specs.Scripted.{domain_with, opening_by, tables_in, versions_shared}
use Rattle.sal_prepare.specs.declared.domains.Schemas.{Schemas}
use Rattle.sal_prepare.proofs.Each.{each_long}
use Rattle.sal_prepare.proofs.Replaced.{all_sound, as_many, same_versions, versions_stay}
use Rattle.sal_prepare.proofs.SoundWorlds.{closed_devices, on_sound}
use Rattle.sal_prepare.proofs.Worlds.{tables_from, tables_kept, tables_on, versions_on}
use Rattle.sal_versions.proofs.Bound.{bind_ok, same_ok}
use Rattle.sal_prepare.proofs.resumed.hub_on.Goals as goal

-- there are as many versions as domains
all_read : (schemas : Schemas) (readers : List (List SchemaTable)) (n : ℕ) → readers ≡ versions_shared schemas → length schemas.devices.items + 1 ≡ suc n → 1 + n ≡ length readers
all_read schemas readers n is all =
    let read = ap length is in
    let same = length-map schemas.devices.items (λ (s : Arc SchemaTable Global). s.value) in
    let each = length-map (tables_in schemas.devices.items) alone in
    omega (arith, read, same, each, all)

-- the own domain, and then those that were read, with what is given for them
parted : (rules : Rules) (tables : List (List SchemaTable)) (own : Opening) (given : List (Option Opening)) (xs : List DeviceParts) (world : List Domain)
    → with_own (domain_with rules (versions_in tables 0) own) given (each_from (opening_by rules tables) 1 xs) ≡ Ok world
    → (ds : List Domain) × (each_from (opening_by rules tables) 1 xs ≡ Ok ds) × (domain_with rules (versions_in tables 0) own ∷ with_openings ds given ≡ world)
parted rules tables own given xs world made =
    let (ds, read, last) = bind_ok (each_from (opening_by rules tables) 1 xs) (λ (ds : List Domain). Ok (domain_with rules (versions_in tables 0) own ∷ with_openings ds given)) world made in
    (ds, read, same_ok last)

-- there are as many devices as the script has domains
long : (rules : Rules) (tables : List (List SchemaTable)) (own : Opening) (given : List (Option Opening)) (xs : List DeviceParts) (world : List Domain)
    → with_own (domain_with rules (versions_in tables 0) own) given (each_from (opening_by rules tables) 1 xs) ≡ Ok world → length world ≡ length xs + 1
long rules tables own given xs world made =
    let (ds, read, whole) = parted rules tables own given xs world made in
    let all = each_long (opening_by rules tables) 1 xs ds read in
    let stay = as_many ds given in
    let same : length world ≡ suc (length (with_openings ds given)) = sym (ap length whole) in
    omega (arith, same, all, stay)

pub hub_of-requires-clause-some : goal.hub_of-requires-clause-some
hub_of-requires-clause-some c =
    let items = c.in_ok-devices.devices.items in
    let made = length-map items (domain_of c.args.script.now.rules) in
    let all = long c.args.script.now.rules c.args.readers.now c.args.openings.own c.args.openings.devices.items (parts c.args.script.now).devices (world_of c.args.script.now.rules items) c.in_ok-devices.ensures in
    omega (arith, made, all)

pub hub_of-requires-clause-few : goal.hub_of-requires-clause-few
hub_of-requires-clause-few c =
    let items = c.in_ok-devices.devices.items in
    let xs = (parts c.args.script.now).devices in
    let made = length-map items (domain_of c.args.script.now.rules) in
    let all = long c.args.script.now.rules c.args.readers.now c.args.openings.own c.args.openings.devices.items xs (world_of c.args.script.now.rules items) c.in_ok-devices.ensures in
    let count : length c.args.schemas.now.devices.items + 1 ≡ suc (length xs) = c.requires.all in
    let few = c.requires.few in
    omega (arith, made, all, count, few)

pub hub_of-requires-clause-closed : goal.hub_of-requires-clause-closed
hub_of-requires-clause-closed c =
    let items = c.in_ok-devices.devices.items in
    let rules = c.args.script.now.rules in
    let tables = c.args.readers.now in
    let xs = (parts c.args.script.now).devices in
    let given = c.args.openings.devices.items in
    let back = sym c.requires.schemas in
    let good : AreChains tables = subst AreChains back c.requires.chains in
    let sound : OthersAreSound xs tables = subst (OthersAreSound xs) back c.others_are_sound.ensures in
    let (ds, read, whole) = parted rules tables c.args.openings.own given xs (world_of rules items) c.in_ok-devices.ensures in
    let count = all_read c.args.schemas.now tables (length xs) c.requires.schemas c.requires.all in
    let same : versions_of ds ≡ drop 1 tables = tables_from rules tables good 1 xs ds count read in
    let fitting : are_fitting (versions_of ds) given ≡ true = ap (λ (ts : List (List SchemaTable)). are_fitting ts given) same ∙ c.requires.devices in
    closed_devices rules items
    (subst AreSound whole (on_sound tables good (omega (arith, count)) rules c.args.openings.own (with_openings ds given) c.requires.config c.requires.oper (all_sound ds given (sound rules ds read) fitting)))

pub hub_of-requires-clause-versions : goal.hub_of-requires-clause-versions
hub_of-requires-clause-versions c =
    let rules = c.args.script.now.rules in
    let tables = c.args.readers.now in
    let xs = (parts c.args.script.now).devices in
    let given = c.args.openings.devices.items in
    let good : AreChains tables = subst AreChains (sym c.requires.schemas) c.requires.chains in
    let (ds, read, whole) = parted rules tables c.args.openings.own given xs (world_of rules c.in_ok-devices.devices.items) c.in_ok-devices.ensures in
    let count = all_read c.args.schemas.now tables (length xs) c.requires.schemas c.requires.all in
    subst AreVersions whole (versions_stay (domain_with rules (versions_in tables 0) c.args.openings.own ∷ ds) (None ∷ given) (versions_on rules tables good c.args.openings.own xs ds count read))

pub hub_of-requires-clause-tables : goal.hub_of-requires-clause-tables
hub_of-requires-clause-tables c =
    let rules = c.args.script.now.rules in
    let tables = c.args.readers.now in
    let xs = (parts c.args.script.now).devices in
    let given = c.args.openings.devices.items in
    let good : AreChains tables = subst AreChains (sym c.requires.schemas) c.requires.chains in
    let (ds, read, whole) = parted rules tables c.args.openings.own given xs (world_of rules c.in_ok-devices.devices.items) c.in_ok-devices.ensures in
    let count = all_read c.args.schemas.now tables (length xs) c.requires.schemas c.requires.all in
    sym (ap versions_of (sym whole) ∙ same_versions (domain_with rules (versions_in tables 0) c.args.openings.own ∷ ds) (None ∷ given) ∙ tables_on rules tables good c.args.openings.own xs ds count read)

pub returns-clause-tables : goal.returns-clause-tables
returns-clause-tables c =
    let rules = c.args.script.now.rules in
    let tables = c.args.readers.now in
    let xs = (parts c.args.script.now).devices in
    let given = c.args.openings.devices.items in
    let world = world_of rules c.in_ok-devices.devices.items in
    let good : AreChains tables = subst AreChains (sym c.requires.schemas) c.requires.chains in
    let (ds, read, whole) = parted rules tables c.args.openings.own given xs world c.in_ok-devices.ensures in
    let count = all_read c.args.schemas.now tables (length xs) c.requires.schemas c.requires.all in
    let told : tables ≡ versions_of world =
    sym (ap versions_of (sym whole) ∙ same_versions (domain_with rules (versions_in tables 0) c.args.openings.own ∷ ds) (None ∷ given) ∙ tables_on rules tables good c.args.openings.own xs ds count read) in
    tables_kept tables world c.hub_of.result told c.hub_of.ensures.world
