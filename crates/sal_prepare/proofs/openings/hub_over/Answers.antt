-- There are as many devices as domains, and they have their versions.
use Rattle.std.proofs.Common.{◌≡◌, ℕ, ◌+◌, ◌≤◌, List, length, ap, sym, ◌∙◌, subst, arith}
use Rattle.std.proofs.lemmas.List.{length-map}
use Rattle.std.specs.declared.alloc.Global.{Global}
use Rattle.std.specs.declared.sync.Arc.{Arc}
use Rattle.sal_schema.specs.declared.table.SchemaTable.{SchemaTable}
use Rattle.sal_hub.specs.Openings.{domain_of, world_of}
use Rattle.sal_script.specs.Reading.{parts}
use Rattle.sal_script.specs.Tables.{versions_of}
use Rattle.sal_client.specs.Lists.{alone}
use Rattle.sal_prepare.specs.Openings.{AreChains, OpenSound}
use Rattle.sal_prepare.specs.Scripted.{domains_of, opening_by, tables_in, versions_shared}
use Rattle.sal_prepare.specs.declared.domains.Schemas.{Schemas}
use Rattle.sal_prepare.proofs.Each.{each_long}
use Rattle.sal_prepare.proofs.SoundWorlds.{closed_devices}
use Rattle.sal_prepare.proofs.Worlds.{tables_from, tables_kept, versions_are}
use Rattle.sal_prepare.proofs.openings.hub_over.Goals as goal

-- there are as many readers as domains
all_read : (schemas : Schemas) (readers : List (List SchemaTable)) (n : ℕ) → readers ≡ versions_shared schemas → length schemas.devices.items + 1 ≡ n → 0 + n ≡ length readers
all_read schemas readers n is all =
    let read = ap length is in
    let same = length-map schemas.devices.items (λ (s : Arc SchemaTable Global). s.value) in
    let each = length-map (tables_in schemas.devices.items) alone in
    omega (arith, read, same, each, all)

pub hub_of-requires-clause-some : goal.hub_of-requires-clause-some
hub_of-requires-clause-some c =
    let items = c.in_ok-devices.devices.items in
    let made = sym (length-map items (domain_of c.args.script.now.rules)) ∙ each_long (opening_by c.args.script.now.rules c.args.readers.now) 0 (domains_of (parts c.args.script.now)) (world_of c.args.script.now.rules items) c.in_ok-devices.ensures in
    let all = c.requires.all in
    omega (arith, made, all)

pub hub_of-requires-clause-few : goal.hub_of-requires-clause-few
hub_of-requires-clause-few c =
    let items = c.in_ok-devices.devices.items in
    let made = sym (length-map items (domain_of c.args.script.now.rules)) ∙ each_long (opening_by c.args.script.now.rules c.args.readers.now) 0 (domains_of (parts c.args.script.now)) (world_of c.args.script.now.rules items) c.in_ok-devices.ensures in
    let all = c.requires.all in
    let few = c.requires.few in
    omega (arith, made, all, few)

pub hub_of-requires-clause-closed : goal.hub_of-requires-clause-closed
hub_of-requires-clause-closed c =
    let items = c.in_ok-devices.devices.items in
    let sound : OpenSound (domains_of (parts c.args.script.now)) c.args.readers.now =
    subst (OpenSound (domains_of (parts c.args.script.now))) (sym c.requires.schemas) c.are_sound.ensures.sound in
    closed_devices c.args.script.now.rules items (sound c.args.script.now.rules (world_of c.args.script.now.rules items) c.in_ok-devices.ensures)

pub hub_of-requires-clause-versions : goal.hub_of-requires-clause-versions
hub_of-requires-clause-versions c =
    let domains = domains_of (parts c.args.script.now) in
    let readers = c.args.readers.now in
    let long = all_read c.args.schemas.now readers (length domains) c.requires.schemas c.requires.all in
    versions_are c.args.script.now.rules readers (subst AreChains (sym c.requires.schemas) c.are_sound.ensures.chains) domains (world_of c.args.script.now.rules c.in_ok-devices.devices.items) (omega (arith, long)) c.in_ok-devices.ensures

pub hub_of-requires-clause-tables : goal.hub_of-requires-clause-tables
hub_of-requires-clause-tables c =
    let domains = domains_of (parts c.args.script.now) in
    let readers = c.args.readers.now in
    let long = all_read c.args.schemas.now readers (length domains) c.requires.schemas c.requires.all in
    sym (tables_from c.args.script.now.rules readers (subst AreChains (sym c.requires.schemas) c.are_sound.ensures.chains) 0 domains (world_of c.args.script.now.rules c.in_ok-devices.devices.items) long c.in_ok-devices.ensures)

pub returns-clause-tables : goal.returns-clause-tables
returns-clause-tables c =
    let domains = domains_of (parts c.args.script.now) in
    let readers = c.args.readers.now in
    let long = all_read c.args.schemas.now readers (length domains) c.requires.schemas c.requires.all in
    let world = world_of c.args.script.now.rules c.in_ok-devices.devices.items in
    let told : readers ≡ versions_of world =
    sym (tables_from c.args.script.now.rules readers (subst AreChains (sym c.requires.schemas) c.are_sound.ensures.chains) 0 domains world long c.in_ok-devices.ensures) in
    tables_kept readers world c.hub_of.result told c.hub_of.ensures.world
