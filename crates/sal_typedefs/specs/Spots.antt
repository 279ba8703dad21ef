-- Sites in the code's form.
use Rattle.std.specs.Prelude.{ℕ, List, ◌++◌, reverse, take}
use Rattle.std.specs.Borrow.{Bor}
use Rattle.sal_stmt.specs.declared.stmt.Stmt.{Stmt}
use Rattle.sal_typedefs.specs.declared.spot.Spot.{Spot}
use Rattle.sal_typedefs.specs.Scopes.{Site}

-- a statement with the blocks around it, from the outermost inwards
abbrev pub site_in : ℕ → List Stmt → Stmt → Site
site_in m blocks stmt = record { «module» = m; stmt = stmt; around = reverse blocks }

-- a statement of module m in the last of the first n of these blocks
abbrev pub seen_in : ℕ → List Stmt → ℕ × Bor Stmt → Site
seen_in m blocks found = site_in m (take found.0 blocks) found.1.now

-- the site of a spot: the blocks of the caller, and the inner ones
abbrev pub site_of : Spot → Site
site_of s = site_in s.module (s.outer.now ++ s.inner.items) s.stmt.now
