-- Versions or schemas that are not built stop all.
use Rattle.std.proofs.Common.{◌≡◌, List, Result, Ok, ap, sym, ◌∙◌, subst}
use Rattle.sal_types.specs.Reading.{◌>>=◌}
use Rattle.sal_schema.specs.declared.table.SchemaTable.{SchemaTable}
use Rattle.sal_script.specs.Reading.{parts}
use Rattle.sal_client.specs.Lists.{versions_by}
use Rattle.sal_versions.specs.Versions.{Versions, seen, tables_of}
use Rattle.sal_prepare.specs.declared.status.Status.{Status}
use Rattle.sal_prepare.specs.Each.{each_from}
use Rattle.sal_prepare.specs.Scripted.{all_versions, IsStatusOf, own_versions, table_by, tables_in}
use Rattle.sal_prepare.proofs.Each.{bind_fault, comes_err}
use Rattle.sal_prepare.proofs.domains.schemas_of.Goals as goal

pub returns-in_err-versions-clause-versions : goal.returns-in_err-versions-clause-versions
returns-in_err-versions-clause-versions c =
    let script = parts c.args.script.now in
    let e = c.in_err-versions.field-0.0 in
    comes_err _ (all_versions script) _ e c.from_residual.ensures.1
    (bind_fault (own_versions script) (λ (own : Versions). each_from table_by 1 script.devices >>= (λ devices. Ok (versions_by (tables_of own) devices))) e c.in_err-versions.ensures)

pub returns-in_err-devices-clause-versions : goal.returns-in_err-devices-clause-versions
returns-in_err-devices-clause-versions c =
    let script = parts c.args.script.now in
    let e = c.in_err-devices.field-0.0 in
    let own = seen c.in_ok-versions.versions in
    comes_err _ (all_versions script) _ e c.from_residual-in_err-devices.ensures.1
    (subst (λ (r : Result Versions Status). IsStatusOf (r >>= (λ (own : Versions). each_from table_by 1 script.devices >>= (λ devices. Ok (versions_by (tables_of own) devices)))) e) (sym c.in_ok-versions.ensures)
    (bind_fault (each_from table_by 1 script.devices) (λ (devices : List SchemaTable). Ok (versions_by (tables_of own) devices)) e c.in_err-devices.ensures.tables))

pub returns-clause-versions : goal.returns-clause-versions
returns-clause-versions c =
    let script = parts c.args.script.now in
    let own = seen c.in_ok-versions.versions in
    let devices = tables_in c.in_ok-devices.devices.items in
    ap (λ (r : Result Versions Status). r >>= (λ (own : Versions). each_from table_by 1 script.devices >>= (λ devices. Ok (versions_by (tables_of own) devices)))) c.in_ok-versions.ensures
    ∙ ap (λ (r : Result (List SchemaTable) Status). r >>= (λ devices. Ok (versions_by (tables_of own) devices))) c.in_ok-devices.ensures.tables
    ∙ ap (λ (ts : List SchemaTable). Ok (versions_by ts devices)) (sym c.in_ok-own.ensures.tables)
