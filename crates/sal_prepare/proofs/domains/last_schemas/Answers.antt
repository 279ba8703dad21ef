-- A device has one version.
use Rattle.std.proofs.Common.{rules, ◌≡◌, ℕ, ◌≤◌, List, ◌∷◌, length, map, take, ap, ◌∙◌, arith}
use Rattle.std.proofs.lemmas.List.{length-map, take_all}
use Rattle.std.specs.declared.alloc.Global.{Global}
use Rattle.std.specs.declared.sync.Arc.{Arc}
use Rattle.sal_schema.specs.declared.table.SchemaTable.{SchemaTable}
use Rattle.sal_script.specs.Tables.{last_among}
use Rattle.sal_prepare.specs.Scripted.{tables_in, versions_shared}
use Rattle.sal_prepare.specs.declared.domains.Schemas.{Schemas}
use Rattle.sal_prepare.proofs.Chosen.{last_versions}
use Rattle.sal_prepare.proofs.domains.last_schemas.Goals as goal

all_last : (schemas : Schemas) (i : ℕ) (last : List SchemaTable) → length schemas.devices.items ≤ i
    → last ≡ last_among (tables_in schemas.own.items) ∷ tables_in (take i schemas.devices.items) → last ≡ map last_among (versions_shared schemas)
all_last schemas i last past is =
    is ∙ ap (λ (xs : List (Arc SchemaTable Global)). last_among (tables_in schemas.own.items) ∷ tables_in xs) (take_all i schemas.devices.items past)
    ∙ last_versions (tables_in schemas.own.items) (tables_in schemas.devices.items)

pub returns-clause-tables : goal.returns-clause-tables
returns-clause-tables c =
    let l = c.loop-device in
    let past : length c.args.schemas.now.devices.items ≤ l.device-index = search rules in
    all_last c.args.schemas.now l.device-index (tables_in l.last.items) past l.invariant

pub returns-clause-few : goal.returns-clause-few
returns-clause-few c =
    let l = c.loop-device in
    let devices = c.args.schemas.now.devices.items in
    let past : length devices ≤ l.device-index = search rules in
    let all = ap length (l.invariant ∙ ap (λ (xs : List (Arc SchemaTable Global)). last_among (tables_in c.args.schemas.now.own.items) ∷ tables_in xs) (take_all l.device-index devices past)) in
    let some = length-map l.last.items (λ (s : Arc SchemaTable Global). s.value) in
    let others = length-map devices (λ (s : Arc SchemaTable Global). s.value) in
    let few = c.requires.few in
    omega (arith, all, some, others, few)
