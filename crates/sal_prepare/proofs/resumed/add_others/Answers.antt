-- Data that do not read stop all.
use Rattle.std.proofs.Common.{rules, ◌≡◌, ◌<◌, List, [], ◌∷◌, ◌++◌, length, Ok, Result, ap, sym, ◌∙◌, arith}
use Rattle.std.proofs.lemmas.Bool.Decides.{nat_tests}
use Rattle.std.proofs.lemmas.List.{length-map}
use Rattle.std.specs.declared.alloc.Global.{Global}
use Rattle.std.specs.declared.sync.Arc.{Arc}
use Rattle.sal_types.specs.Reading.{◌>>=◌}
use Rattle.sal_schema.specs.declared.table.SchemaTable.{SchemaTable}
use Rattle.sal_history.specs.declared.opening.Opening.{Opening}
use Rattle.sal_script.specs.Tables.{first_in, versions_in}
use Rattle.sal_hub.specs.Openings.{world_of}
use Rattle.sal_script.specs.Reading.{parts}
use Rattle.sal_client.specs.Lists.{alone}
use Rattle.sal_prepare.specs.declared.status.Status.{Status}
use Rattle.sal_prepare.specs.Each.{each_from}
use Rattle.sal_prepare.specs.Scripted.{domain_with, domains_of, opening_by, opening_trees, tables_in, given, with_next}
use Rattle.sal_prepare.proofs.Each.{before, bind_fault, comes_err, goes, stops, with_fault}
use Rattle.sal_prepare.proofs.resumed.add_others.Goals as goal

pub opening_at-requires : goal.opening_at-requires
opening_at-requires c =
    let l = c.loop-number in
    let schemas = c.args.schemas.now in
    let read = ap length c.requires.schemas in
    let same = length-map schemas.devices.items (λ (s : Arc SchemaTable Global). s.value) in
    let each = length-map (tables_in schemas.devices.items) alone in
    let all = c.requires.all in
    let asked : l.number < length (domains_of (parts c.args.script.now)) = search rules in
    let within : l.number < length c.args.readers.now = omega (arith, read, same, each, all, asked) in
    grind (arith, nat_tests, within)

pub versions_at-requires-clause-within : goal.versions_at-requires-clause-within
versions_at-requires-clause-within c =
    let l = c.loop-number in
    let schemas = c.args.schemas.now in
    let same = length-map schemas.devices.items (λ (s : Arc SchemaTable Global). s.value) in
    let each = length-map (tables_in schemas.devices.items) alone in
    let all = c.requires.all in
    let asked : l.number < length (domains_of (parts c.args.script.now)) = search rules in
    omega (arith, same, each, all, asked)

pub returns-in_err-opening : goal.returns-in_err-opening
returns-in_err-opening c =
    let make = opening_by c.args.script.now.rules c.args.readers.now in
    let total = before (world_of c.args.script.now.rules c.args.devices.now.items) (each_from make 1 (parts c.args.script.now).devices) in
    let done = world_of c.args.script.now.rules c.loop-number.devices.items in
    let domain = given c.domain_at-domain.result in
    let e = c.in_err-opening.field-0.0 in
    let fault = bind_fault (opening_trees c.loop-number.number (first_in c.args.readers.now c.loop-number.number) domain) (λ (o : Opening). Ok (domain_with c.args.script.now.rules (versions_in c.args.readers.now c.loop-number.number) o)) e c.in_err-opening.ensures in
    comes_err _ total _ e c.from_residual.ensures.1
    (stops make (domains_of (parts c.args.script.now)) done c.loop-number.number domain c.domain_at-domain.ensures.domain total e (with_fault done (make c.loop-number.number domain) e fault) c.loop-number.invariant)

pub loop-number-preserved : goal.loop-number-preserved
loop-number-preserved c =
    let make = opening_by c.args.script.now.rules c.args.readers.now in
    let total = before (world_of c.args.script.now.rules c.args.devices.now.items) (each_from make 1 (parts c.args.script.now).devices) in
    let done = world_of c.args.script.now.rules c.loop-number.devices.items in
    let domain = given c.domain_at-domain.result in
    let opening = c.in_ok-opening.opening in
    let versions : versions_in c.args.readers.now c.loop-number.number ≡ tables_in c.versions_at.result.now =
    ap (λ (ts : List (List SchemaTable)). versions_in ts c.loop-number.number) c.requires.schemas ∙ sym c.versions_at.ensures.tables in
    let made : with_next done (make c.loop-number.number domain) ≡ Ok (world_of c.args.script.now.rules c.add_device.new.devices.items) =
    ap (λ (r : Result Opening Status). with_next done (r >>= (λ (o : Opening). Ok (domain_with c.args.script.now.rules (versions_in c.args.readers.now c.loop-number.number) o)))) c.in_ok-opening.ensures
    ∙ ap (λ (vs : List SchemaTable). Ok (done ++ domain_with c.args.script.now.rules vs opening ∷ [])) versions
    ∙ ap Ok (sym (c.in_ok-add_device.ensures c.args.script.now.rules)) in
    goes make (domains_of (parts c.args.script.now)) done c.loop-number.number domain c.domain_at-domain.ensures.domain total (world_of c.args.script.now.rules c.add_device.new.devices.items) made c.loop-number.invariant
