-- The values of a script are JSON, and rows read from them at the root are whole.
use Rattle.std.proofs.Common.{◌≡◌, ◌+◌, ◌≤◌, suc, length, arith}
use Rattle.std.proofs.lemmas.List.{length-map}
use Rattle.std.specs.declared.alloc.Global.{Global}
use Rattle.std.specs.declared.sync.Arc.{Arc}
use Rattle.sal_schema.specs.declared.table.SchemaTable.{SchemaTable}
use Rattle.sal_script.specs.Reading.{parts}
use Rattle.sal_client.specs.Lists.{alone}
use Rattle.sal_prepare.specs.Scripted.{tables_in, versions_shared}
use Rattle.sal_prepare.proofs.SoundWorlds.{all_sound, domains_json}
use Rattle.sal_prepare.proofs.resumed.others_are_sound.Goals as goal

pub returns : goal.returns
returns c =
    let script = c.args.script.now in
    let schemas = c.args.schemas.now in
    let xs = (parts script).devices in
    let some = length-map schemas.devices.items (λ (s : Arc SchemaTable Global). s.value) in
    let each = length-map (tables_in schemas.devices.items) alone in
    let all : length schemas.devices.items + 1 ≡ suc (length xs) = c.requires.all in
    let room : 1 + length xs ≤ length (versions_shared schemas) = omega (arith, some, each, all) in
    λ rules ds made. all_sound c.rows_that_were_read_are_whole.ensures.whole (versions_shared schemas) c.requires.chains rules 1 xs ds room (domains_json c.json_is_tested.ensures script).1 made
