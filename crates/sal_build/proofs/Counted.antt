-- Readable statements are fewer than 2 ^ 32.
use Rattle.std.proofs.Common.{◌<◌, ◌^◌, nat_lt, IsTrue, List}
use Rattle.std.specs.List.{list_all}
use Rattle.sal_stmt.specs.declared.stmt.Stmt.{Stmt}
use Rattle.sal_schema.proofs.Conjuncts.{and_second}
use Rattle.sal_typedefs.specs.Names.{steps_of}
use Rattle.sal_module_table.proofs.Derivations.{less}
use Rattle.sal_build.specs.Readable.{is_readable, are_readable}

pub counted : (stmts : List Stmt) → IsTrue (are_readable stmts) → steps_of stmts < 2 ^ 32
counted stmts readable = less (steps_of stmts) (2 ^ 32) (and_second (list_all is_readable stmts) (nat_lt (steps_of stmts) (2 ^ 32)) readable)
