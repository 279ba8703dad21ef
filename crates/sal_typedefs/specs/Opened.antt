-- Open blocks in the code's form.
use Rattle.std.specs.Prelude.{◌≡◌, ℕ, List, [], ◌++◌, reverse}
use Rattle.sal_stmt.specs.declared.stmt.Stmt.{Stmt}
use Rattle.sal_typedefs.specs.declared.scope.Scope.{Scope}
use Rattle.sal_typedefs.specs.declared.tops.Means.{Means}
use Rattle.sal_typedefs.specs.Settled.{World, AreKept, AreTops}

abbrev pub world : Scope → World
world s = record { modules = s.typedefs.now; ranks = s.ranks.now }

abbrev pub world_of : Means → World
world_of means = record { modules = means.typedefs.now; ranks = means.ranks.now }

-- the typedefs of open blocks are settled rightly, and those of all modules
pub record IsOpen (s : Scope) : Type 0 where
  pub own : AreKept (world s) s.number (reverse s.around.items) (reverse s.kept.items)
  pub others : AreTops (world s) s.tops.now

-- the same modules, and blocks with one more inside
pub record IsGrown (old new : Scope) (more : List Stmt) : Type 0 where
  pub ready : IsOpen new
  pub typedefs : new.typedefs.now ≡ old.typedefs.now
  pub ranks : new.ranks.now ≡ old.ranks.now
  pub number : new.number ≡ old.number
  pub around : new.around.items ≡ old.around.items ++ more

-- the same modules and blocks
abbrev pub IsStill : Scope → Scope → Type 0
IsStill old new = IsGrown old new []

-- of these modules and blocks
pub record IsIn (modules : List Stmt) (m : ℕ) (around : List Stmt) (s : Scope) : Type 0 where
  pub ready : IsOpen s
  pub modules_are : s.typedefs.now ≡ modules
  pub number : s.number ≡ m
  pub around_are : s.around.items ≡ around
