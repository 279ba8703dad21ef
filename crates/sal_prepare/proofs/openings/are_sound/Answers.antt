-- The versions of domain 0 are in order and each device has one; the values of a script are JSON, and rows read from them at the root are whole.
use Rattle.std.proofs.Common.{◌≡◌, ℕ, ◌+◌, ◌≤◌, List, length, map, Ok, ap, sym, ◌∙◌, subst, arith}
use Rattle.std.specs.Prelude.{All}
use Rattle.std.proofs.lemmas.List.{length-map}
use Rattle.std.specs.declared.alloc.Global.{Global}
use Rattle.std.specs.declared.sync.Arc.{Arc}
use Rattle.sal_types.specs.Reading.{◌>>=◌}
use Rattle.sal_schema.specs.declared.table.SchemaTable.{SchemaTable}
use Rattle.sal_schema.specs.Valid.{IsTable}
use Rattle.sal_script.specs.Reading.{parts}
use Rattle.sal_script.specs.Script.{Parts}
use Rattle.sal_script.specs.Tables.{versions_in}
use Rattle.sal_client.specs.Lists.{alone, versions_by}
use Rattle.sal_prepare.specs.Each.{each_from}
use Rattle.sal_prepare.specs.Scripted.{all_versions, domains_of, or_schema, own_versions, table_by, tables_in, versions_shared}
use Rattle.sal_versions.specs.Versions.{AreInOrder, Versions, VersionsAreInOrder, tables_of, versions_of}
use Rattle.sal_versions.proofs.Bound.{bind_ok, same_ok}
use Rattle.sal_prepare.proofs.Each.{schema-ok}
use Rattle.sal_prepare.proofs.SoundWorlds.{all_sound, chained, domains_json}
use Rattle.sal_prepare.proofs.openings.are_sound.Goals as goal

own_in_order : VersionsAreInOrder → (parts : Parts) (own devices : List SchemaTable) → all_versions parts ≡ Ok (versions_by own devices) → AreInOrder own
own_in_order law parts own devices made =
    let first = bind_ok (own_versions parts) (λ (v : Versions). each_from table_by 1 parts.devices >>= (λ tables. Ok (versions_by (tables_of v) tables))) (versions_by own devices) made in
    let rest = bind_ok (each_from table_by 1 parts.devices) (λ tables. Ok (versions_by (tables_of first.0) tables)) (versions_by own devices) first.2 in
    subst AreInOrder (ap (λ ts. versions_in ts 0) (same_ok rest.2)) (law parts.modules parts.upgrades first.0 (schema-ok 0 (versions_of parts.modules parts.upgrades) first.0 first.1))

-- a property of lent schemas is one of these
lent : {xs ys : List (Arc SchemaTable Global)} → xs ≡ ys → All IsTable (tables_in xs) → All IsTable (tables_in ys)
lent same tables = subst (λ (xs : List (Arc SchemaTable Global)). All IsTable (tables_in xs)) same tables

pub returns-clause-chains : goal.returns-clause-chains
returns-clause-chains c =
    let schemas = c.args.schemas.now in
    let own = tables_in schemas.own.items in
    let devices = tables_in schemas.devices.items in
    let same = length-map schemas.own.items (λ (s : Arc SchemaTable Global). s.value) in
    chained own devices (omega (arith, same, c.requires.own)) (lent c.deref.ensures.value c.are_tables.ensures)
    (own_in_order c.versions_are_in_order.ensures (parts c.args.script.now) own devices c.requires.made) (lent c.deref-2.ensures.value c.are_tables-2.ensures)

pub returns-clause-sound : goal.returns-clause-sound
returns-clause-sound c =
    let script = c.args.script.now in
    let schemas = c.args.schemas.now in
    let own = tables_in schemas.own.items in
    let devices = tables_in schemas.devices.items in
    let same = length-map schemas.own.items (λ (s : Arc SchemaTable Global). s.value) in
    let good = chained own devices (omega (arith, same, c.requires.own)) (lent c.deref.ensures.value c.are_tables.ensures)
    (own_in_order c.versions_are_in_order.ensures (parts script) own devices c.requires.made) (lent c.deref-2.ensures.value c.are_tables-2.ensures) in
    let domains = domains_of (parts script) in
    let some = length-map schemas.devices.items (λ (s : Arc SchemaTable Global). s.value) in
    let each = length-map devices alone in
    let all = c.requires.all in
    let room : 0 + length domains ≤ length (versions_shared schemas) = omega (arith, some, each, all) in
    λ ruled world made. all_sound c.rows_that_were_read_are_whole.ensures.whole (versions_shared schemas) good ruled 0 domains world room (domains_json c.json_is_tested.ensures script) made
