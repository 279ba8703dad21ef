-- The one later version is the schema again.
use Rattle.std.proofs.Common.{◌≡◌, [], ◌∷◌, ◌++◌, List, refl, ap, subst, ◌∙◌}
use Rattle.sal_commit.specs.Versions.{tables_of}
use Rattle.sal_schema.specs.declared.table.SchemaTable.{SchemaTable}
use Rattle.tests_calls.specs.Ready.{IsDomain}
use Rattle.tests_calls.proofs.opened.add_own.Goals as goal

pub returns-then-add_version : goal.returns-then-add_version
returns-then-add_version c = λ yes.
    let d = c.add.ensures yes in
    let versions : tables_of c.add_version.new.upgrades.items ≡ c.args.schema.now.value ∷ [] =
    c.if-add_version.ensures refl ∙ ap (λ upgrades. tables_of upgrades ++ c.args.schema.now.value ∷ []) c.new-upgrades.ensures.items in
    (d.0, d.1, subst (λ (tables : List SchemaTable). IsDomain c.args.schema.now.value tables d.0) versions d.2)
