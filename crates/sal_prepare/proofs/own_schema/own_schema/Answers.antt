-- The versions that are made are those of the script, and they are in order.
use Rattle.std.proofs.Common.{◌≡◌, List, Result, ap, sym, ◌∙◌, subst}
use Rattle.std.specs.declared.alloc.Global.{Global}
use Rattle.std.specs.declared.sync.Arc.{Arc}
use Rattle.sal_types.specs.Reading.{◌>>=◌}
use Rattle.sal_schema.specs.declared.table.SchemaTable.{SchemaTable}
use Rattle.sal_script.specs.Reading.{parts}
use Rattle.sal_versions.specs.Versions.{AreInOrder, Versions, seen, tables_of, versions_of}
use Rattle.sal_prepare.specs.declared.own_schema.OwnSchema.{OwnSchema}
use Rattle.sal_prepare.specs.declared.status.Status.{Status}
use Rattle.sal_prepare.specs.OwnSchemas.{last_formed, own_table}
use Rattle.sal_prepare.specs.Scripted.{Comes, tables_in}
use Rattle.sal_prepare.proofs.Each.{schema-ok}
use Rattle.sal_prepare.proofs.own_schema.own_schema.Goals as goal

pub last_schema-requires-clause-order : goal.last_schema-requires-clause-order
last_schema-requires-clause-order c =
    let made = parts c.args.script.now in
    let order : AreInOrder (tables_of (seen c.in_ok-versions.versions)) =
    c.versions_are_in_order.ensures made.modules made.upgrades (seen c.in_ok-versions.versions) (schema-ok 0 (versions_of made.modules made.upgrades) (seen c.in_ok-versions.versions) c.in_ok-versions.ensures) in
    subst AreInOrder (sym c.in_ok-schemas.ensures.tables ∙ ap tables_in (sym c.deref.ensures.value)) order

pub returns-clause-table : goal.returns-clause-table
returns-clause-table c =
    let same : own_table (parts c.args.script.now) ≡ last_formed (tables_in c.deref.result.now) =
    ap (λ (made : Result Versions Status). made >>= (λ own. last_formed (tables_of own))) c.in_ok-versions.ensures
    ∙ ap last_formed (sym c.in_ok-schemas.ensures.tables ∙ ap tables_in (sym c.deref.ensures.value)) in
    subst (λ (made : Result SchemaTable Status). Comes (λ (own : OwnSchema). own.schema.value) made c.last_schema.result) (sym same) c.last_schema.ensures.table
