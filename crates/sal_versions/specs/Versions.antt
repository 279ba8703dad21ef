-- The versions of a domain's schema: version 0 of its modules, then one for each upgrade, which adds the modules of its texts.
use Rattle.std.specs.Prelude.{◌≡◌, ℕ, ◌+◌, List, [], ◌∷◌, ◌++◌, length, Result, Ok, Err}
use Rattle.sal_types.specs.Reading.{◌>>=◌}
use Rattle.sal_stmt.specs.declared.stmt.Stmt.{Stmt}
use Rattle.sal_schema.specs.declared.table.SchemaTable.{SchemaTable}
use Rattle.sal_schema.specs.Versions.{Extends}
use Rattle.sal_module_table.specs.declared.versions.Version.{Version}
use Rattle.sal_module_table.specs.Versions.{first, next}
use Rattle.sal_build.specs.Versions.{tabled}
use Rattle.sal_versions.specs.Schemas.{statements_from, in_words, upgrade_text}
use Rattle.sal_versions.specs.declared.versions.Versions.{Versions as CodeVersions}

-- the statements of all modules, the tables of the older versions, and the latest version
pub record Versions : Type 0 where
  pub stmts : List Stmt
  pub olds : List SchemaTable
  pub latest : Version

-- version 0 first
abbrev pub tables_of : Versions → List SchemaTable
tables_of versions = versions.olds ++ versions.latest.table ∷ []

-- version 0 of these statements
abbrev pub first_built : List Stmt → Result Versions (List ℕ)
first_built stmts = in_words (first stmts) >>= (λ v. Ok (record { stmts = stmts; olds = []; latest = v }))

-- Version 0 of these texts. They are read first, in their order.
abbrev pub first_of : List (List ℕ) → Result Versions (List ℕ)
first_of texts = statements_from 0 texts >>= first_built

-- a later version after the latest one
abbrev pub with_latest : Versions → Version → Versions
with_latest versions v = record { stmts = versions.stmts; olds = tables_of versions; latest = v }

-- the next version of the statements, of which the first `old` are those of the latest version
abbrev pub next_built : ℕ → Versions → Result Versions (List ℕ)
next_built old versions = in_words (next versions.stmts old versions.latest) >>= (λ v. Ok (with_latest versions v))

-- the same with these statements added
abbrev pub with_more : Versions → List Stmt → Result Versions (List ℕ)
with_more versions more =
    next_built (length versions.stmts) (record { stmts = versions.stmts ++ more; olds = versions.olds; latest = versions.latest })

-- The next version, with the statements of these texts added. Modules are counted from the first one of version 0.
abbrev pub next_of : Versions → List (List ℕ) → Result Versions (List ℕ)
next_of versions texts = statements_from (length versions.stmts) texts >>= with_more versions

-- its fault names the upgrade
abbrev pub or_upgrade : {A : Type 0} → ℕ → Result A (List ℕ) → Result A (List ℕ)
or_upgrade u (Ok made) = Ok made
or_upgrade u (Err text) = Err (upgrade_text u text)

-- with the upgrades from this number on
abbrev pub upgraded : ℕ → Versions → List (List (List ℕ)) → Result Versions (List ℕ)
upgraded u versions [] = Ok versions
upgraded u versions (texts ∷ rest) = or_upgrade u (next_of versions texts) >>= (λ more. upgraded (u + 1) more rest)

-- All versions of a domain with these modules and upgrades, or the text of the first fault. Each version is read and built before the next one.
abbrev pub versions_of : List (List ℕ) → List (List (List ℕ)) → Result Versions (List ℕ)
versions_of modules upgrades = first_of modules >>= (λ versions. upgraded 1 versions upgrades)

-- versions in the code's form
abbrev pub seen : CodeVersions → Versions
seen versions = record { stmts = versions.stmts.items; olds = versions.olds.items; latest = tabled versions.latest }

-- ---- a law

-- of tables, version 0 first: each extends the one before
abbrev pub AreInOrder : List SchemaTable → Type 0
AreInOrder [] = Unit {0}
AreInOrder (older ∷ []) = Unit {0}
AreInOrder (older ∷ newer ∷ more) = Extends newer older × AreInOrder (newer ∷ more)

-- Each version of a domain extends the one before.
abbrev pub VersionsAreInOrder : Type 0
VersionsAreInOrder = (modules : List (List ℕ)) (upgrades : List (List (List ℕ))) (versions : Versions) → versions_of modules upgrades ≡ Ok versions → AreInOrder (tables_of versions)
