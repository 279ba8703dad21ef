use Rattle.std.proofs.Common.{◌≡◌, [], Ok, sym, subst}
use Rattle.sal_module_table.specs.declared.versions.Version.{Version}
use Rattle.sal_module_table.specs.Versions.{first}
use Rattle.sal_build.specs.Versions.{tabled}
use Rattle.sal_build.proofs.Counted.{counted}
use Rattle.sal_build.proofs.versions.versioned.Goals as goal

pub first_version-requires : goal.first_version-requires
first_version-requires c = counted c.args.stmts.now c.requires

pub with_schema-requires : goal.with_schema-requires
with_schema-requires c = c.first_versions_are_tables.ensures.table c.args.stmts.now c.in_ok-version.version c.requires c.in_ok-version.ensures

pub returns-clause-of : goal.returns-clause-of
returns-clause-of c =
    let stmts = c.args.stmts.now in
    let made : first stmts ≡ Ok (tabled c.in_ok-with_schema.field-0) = subst (λ (v : Version). first stmts ≡ Ok v) (sym c.in_ok-with_schema.ensures) c.in_ok-version.ensures in
    ([], made)
