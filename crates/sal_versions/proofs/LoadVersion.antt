-- The module of a load has one version.
use Rattle.std.proofs.Common.{◌≡◌, [], ◌∷◌, Result, Ok, Err, refl, ap, ◌∙◌}
use Rattle.sal_types.specs.Reading.{◌>>=◌}
use Rattle.sal_stmt.specs.declared.fault.StmtFault.{StmtFault}
use Rattle.sal_stmt.specs.declared.stmt.Stmt.{Stmt}
use Rattle.sal_module.specs.declared.fault.BuildFault.{BuildFault}
use Rattle.sal_schema.specs.declared.table.SchemaTable.{SchemaTable}
use Rattle.sal_module_table.specs.declared.versions.Version.{Version}
use Rattle.sal_module_table.specs.Versions.{first}
use Rattle.sal_build.proofs.Extending.{first_is_built}
use Rattle.sal_script.specs.LoadExamples.{table}
use Rattle.sal_script.specs.declared.load.TheConstants.{LOAD_MODULE}
use Rattle.sal_versions.specs.Loads.{LoadsHaveOneVersion}
use Rattle.sal_versions.specs.Schemas.{or_text, in_words}
use Rattle.sal_versions.specs.Versions.{Versions, first_built, versions_of}
use Rattle.sal_versions.proofs.Bound.{same_ok}
use Rattle.sal_versions.proofs.LoadText.{its_stmts, its_text}
use Rattle.sal_versions.proofs.LoadTable.{its_build}

-- the first version of modules that build a table
built : (made : Result Version BuildFault) (t : SchemaTable) → (made >>= (λ (v : Version). Ok v.table)) ≡ Ok t → (v : Version) × (made ≡ Ok v) × (v.table ≡ t)
built (Ok v) t e = (v, refl, same_ok e)
built (Err fault) t e = cc

-- the versions if this is the first one
abbrev alone : Version → Versions
alone v = record { stmts = its_stmts; olds = []; latest = v }

-- there is no upgrade
first-alone : (v : Version) → first its_stmts ≡ Ok v → versions_of (LOAD_MODULE.now ∷ []) [] ≡ Ok (alone v)
first-alone v is =
    ap (λ (r : Result Stmt StmtFault). ((or_text 0 LOAD_MODULE.now r >>= (λ (stmt : Stmt). Ok (stmt ∷ []))) >>= first_built) >>= (λ (versions : Versions). Ok versions)) its_text
    ∙ ap (λ (r : Result Version BuildFault). (in_words r >>= (λ (made : Version). Ok (alone made))) >>= (λ (versions : Versions). Ok versions)) is

pub one_version : LoadsHaveOneVersion
one_version =
    let it = built (first its_stmts) table (first_is_built its_stmts ∙ its_build) in
    (alone it.0, first-alone it.0 it.1, ap (λ (t : SchemaTable). t ∷ []) it.2)
