-- Versions of schemas.
use Rattle.std.specs.Prelude.{◌≡◌, ℕ, ◌≤◌, List, [], ◌∷◌, length, take, Ok, IsTrue}
use Rattle.sal_types.specs.Reading.{◌>>=◌}
use Rattle.sal_stmt.specs.declared.stmt.Stmt.{Stmt}
use Rattle.sal_schema.specs.Valid.{IsTable}
use Rattle.sal_schema.specs.Versions.{Extends}
use Rattle.sal_module_table.specs.declared.versions.Version.{Version}
use Rattle.sal_module_table.specs.Build.{build}
use Rattle.sal_module_table.specs.Versions.{first, next, version}
use Rattle.sal_build.specs.Readable.{are_readable}
use Rattle.sal_build.specs.declared.versions.SchemaVersion.{SchemaVersion}

-- the version with a table in place of its schema
abbrev pub tabled : SchemaVersion → Version
tabled v = version v.growth v.schema

-- The version of these statements that is reached through older ones. `olds` has the number of statements of each older one, the last one first.
abbrev pub IsReached : List ℕ → List Stmt → Version → Type 0
IsReached [] stmts v = first stmts ≡ Ok v
IsReached (old ∷ olds) stmts v = (older : Version) × (old ≤ length stmts) × IsReached olds (take old stmts) older × (next stmts old older ≡ Ok v)

-- a version of these statements, through any older ones
abbrev pub IsVersionOf : List Stmt → Version → Type 0
IsVersionOf stmts v = (olds : List ℕ) × IsReached olds stmts v

-- Each version extends the older one.
abbrev pub VersionsExtend : Type 0
VersionsExtend = (stmts : List Stmt) (old : ℕ) (older v : Version) → next stmts old older ≡ Ok v → Extends v.table older.table

-- For statements that are read from texts, the next version has the table of a schema if the older one has.
abbrev pub VersionsAreTables : Type 0
VersionsAreTables =
    (stmts : List Stmt) (old : ℕ) (older v : Version) → IsTrue (are_readable stmts) → old ≤ length stmts → IsVersionOf (take old stmts) older
    → IsTable older.table → next stmts old older ≡ Ok v → IsTable v.table

-- For statements that are read from texts, the first version has the table of a schema.
abbrev pub FirstIsTable : Type 0
FirstIsTable = (stmts : List Stmt) (v : Version) → IsTrue (are_readable stmts) → first stmts ≡ Ok v → IsTable v.table

-- The first version has the table of `build`, or its fault.
abbrev pub FirstIsBuilt : Type 0
FirstIsBuilt = (stmts : List Stmt) → (first stmts >>= (λ (v : Version). Ok v.table)) ≡ build stmts
