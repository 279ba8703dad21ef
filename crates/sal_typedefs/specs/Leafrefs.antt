-- Leafrefs in the code's form.
use Rattle.std.specs.Prelude.{ℕ}
use Rattle.sal_stmt.specs.declared.stmt.Stmt.{Stmt}
use Rattle.sal_typedefs.specs.declared.leafrefs.Leafref.{Leafref}
use Rattle.sal_typedefs.specs.Scopes.{Site}

-- a statement and its module
abbrev pub leafref_seen : Leafref → ℕ × Stmt
leafref_seen leafref = (leafref.module, leafref.stmt.now)

abbrev pub stmt_in : Site → ℕ × Stmt
stmt_in site = (site.module, site.stmt)
