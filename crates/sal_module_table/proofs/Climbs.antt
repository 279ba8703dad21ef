-- Steps up, from one to the next.
use Rattle.std.proofs.Common.{◌≡◌, ℕ, zero, suc, ◌-◌, ◌<◌, List, Option, Some, None, refl, arith}
use Rattle.sal_stmt.specs.declared.stmt.Stmt.{Stmt}
use Rattle.sal_grouping.specs.declared.forest.Branch.{Branch}
use Rattle.sal_module_table.specs.Leafrefs.{step_up, steps_up}

module _ (stmts : List Stmt) (forest : List Branch) where
  pub up-zero : (place : Option ℕ) → steps_up 0 stmts forest place ≡ Some place
  unfolding steps_up
  up-zero place = refl

  up-suc-none : (n : ℕ) (place : Option ℕ) → step_up stmts forest place ≡ None → steps_up (suc n) stmts forest place ≡ None
  unfolding steps_up
  up-suc-none n place e = rw e refl

  up-suc : (n : ℕ) (place above : Option ℕ) → step_up stmts forest place ≡ Some above → steps_up (suc n) stmts forest place ≡ steps_up n stmts forest above
  unfolding steps_up
  up-suc n place above e = rw e refl

  pub up-none : (n : ℕ) (place : Option ℕ) → 0 < n → step_up stmts forest place ≡ None → steps_up n stmts forest place ≡ None
  up-none zero place h e = absurd (omega arith)
  up-none (suc n) place h e = up-suc-none n place e

  pub up-some : (n : ℕ) (place above : Option ℕ) → 0 < n → step_up stmts forest place ≡ Some above → steps_up n stmts forest place ≡ steps_up (n - 1) stmts forest above
  up-some zero place above h e = absurd (omega arith)
  up-some (suc n) place above h e = let less : suc n - 1 ≡ n = omega arith in rw less (up-suc n place above e)
