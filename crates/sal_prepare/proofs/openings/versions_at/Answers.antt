-- A device has one version.
use Rattle.std.proofs.Common.{rules, ◌≡◌, ℕ, ◌-◌, ◌<◌, ◌∷◌, [], List, length, ap, sym, ◌∙◌, arith}
use Rattle.std.proofs.lemmas.List.{length-map}
use Rattle.std.specs.declared.alloc.Global.{Global}
use Rattle.std.specs.declared.sync.Arc.{Arc}
use Rattle.sal_schema.specs.declared.table.SchemaTable.{SchemaTable}
use Rattle.sal_client.specs.Lists.{alone}
use Rattle.sal_prepare.specs.Scripted.{tables_in}
use Rattle.sal_prepare.proofs.Chosen.{device_versions}
use Rattle.sal_prepare.proofs.openings.versions_at.Goals as goal

pub returns-clause-tables : goal.returns-clause-tables
returns-clause-tables c =
    let schemas = c.args.schemas.now in
    let devices = schemas.devices.items in
    let n = c.args.number in
    let s = c.index.result.now in
    let same = length-map devices (λ (s : Arc SchemaTable Global). s.value) in
    let each = length-map (tables_in devices) alone in
    let behind : 0 < n = search rules in
    let asked = c.requires.within in
    ap tables_in c.from_ref.ensures.value ∙ sym (device_versions (tables_in schemas.own.items) devices n s behind (omega (arith, same, each, behind, asked)) c.index.ensures)
