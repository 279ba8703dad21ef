use Rattle.std.proofs.Common.{◌≡◌, ◌∷◌, Ok, sym, ap, subst}
use Rattle.sal_schema.specs.declared.table.SchemaTable.{SchemaTable}
use Rattle.sal_schema.specs.Versions.{Extends}
use Rattle.sal_module_table.specs.declared.versions.Version.{Version}
use Rattle.sal_module_table.specs.Versions.{next, version}
use Rattle.sal_build.specs.Versions.{tabled, IsVersionOf}
use Rattle.sal_build.proofs.Counted.{counted}
use Rattle.sal_build.proofs.versions.build_on.Goals as goal

pub next_version-requires-clause-counted : goal.next_version-requires-clause-counted
next_version-requires-clause-counted c = counted c.args.stmts.now c.requires.readable

pub with_schema-requires : goal.with_schema-requires
with_schema-requires c =
    let stmts = c.args.stmts.now in
    let older = c.args.older.now in
    let made : next stmts c.args.old (tabled older) ≡ Ok c.in_ok-version.version =
    subst (λ (t : SchemaTable). next stmts c.args.old (version older.growth t) ≡ Ok c.in_ok-version.version) c.table.ensures.table c.in_ok-version.ensures in
    c.versions_are_tables.ensures stmts c.args.old (tabled older) c.in_ok-version.version c.requires.readable c.requires.old c.requires.older c.table.ensures.good made

pub returns-clause-of : goal.returns-clause-of
returns-clause-of c =
    let stmts = c.args.stmts.now in
    let older = c.args.older.now in
    let old = c.args.old in
    let made : next stmts old (tabled older) ≡ Ok c.in_ok-version.version =
    subst (λ (t : SchemaTable). next stmts old (version older.growth t) ≡ Ok c.in_ok-version.version) c.table.ensures.table c.in_ok-version.ensures in
    let is : IsVersionOf stmts c.in_ok-version.version = (old ∷ c.requires.older.0, (tabled older, c.requires.old, c.requires.older.1, made)) in
    subst (IsVersionOf stmts) (sym c.in_ok-with_schema.ensures) is

pub returns-clause-extends : goal.returns-clause-extends
returns-clause-extends c =
    let stmts = c.args.stmts.now in
    let older = c.args.older.now in
    let made : next stmts c.args.old (tabled older) ≡ Ok c.in_ok-version.version =
    subst (λ (t : SchemaTable). next stmts c.args.old (version older.growth t) ≡ Ok c.in_ok-version.version) c.table.ensures.table c.in_ok-version.ensures in
    let extends : Extends c.in_ok-version.version.table older.schema = c.versions_extend.ensures stmts c.args.old (tabled older) c.in_ok-version.version made in
    subst (λ (v : Version). Extends v.table older.schema) (sym c.in_ok-with_schema.ensures) extends
