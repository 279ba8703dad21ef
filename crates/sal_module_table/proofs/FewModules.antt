-- There are no more modules than statements.
use Rattle.std.proofs.Common.{◌≤◌, List, [], ◌∷◌, length, arith}
use Rattle.std.specs.List.{sum_by}
use Rattle.std.proofs.lemmas.List.Sums.{sum_by-cons}
use Rattle.sal_stmt.specs.declared.stmt.Stmt.{Stmt}
use Rattle.sal_typedefs.specs.Names.{count, steps_of}
use Rattle.sal_typedefs.proofs.IdentityNumbers.{count-some}

pub modules-few : (stmts : List Stmt) → length stmts ≤ steps_of stmts
modules-few [] = omega arith
modules-few (stmt ∷ stmts) = omega (arith, sum_by-cons (count 64) stmt stmts, count-some 64 stmt, modules-few stmts)
