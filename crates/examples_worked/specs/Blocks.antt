-- Nested blocks.
use Rattle.std.specs.Prelude.{ℕ, zero, suc, ◌+◌, [], ◌∷◌, ◌++◌}
use Rattle.sal_stmt.specs.declared.stmt.Stmt.{Stmt}
use Rattle.sal_stmt.specs.Words.{Text}
use Rattle.examples_worked.specs.Trees.{word}

-- n times `a{`, and as many times `}`
abbrev pub blocks : ℕ → Text
blocks zero = []
blocks (suc n) = 97 ∷ 123 ∷ (blocks n ++ 125 ∷ [])

-- the statement of the first of these, at an offset, with n in it
abbrev pub tower : ℕ → ℕ → Stmt
tower at zero = word "a" at []
tower at (suc n) = word "a" at (tower (at + 2) n ∷ [])
