use Rattle.std.proofs.Common.{◌≡◌, ◌∙◌, [], List, refl, subst}
use Rattle.sal_stmt.specs.declared.stmt.Stmt.{Stmt}
use Rattle.sal_module.specs.Faults.{least}
use Rattle.sal_typedefs.specs.Spots.{site_in}
use Rattle.sal_module_table.specs.Types.{faults_in}
use Rattle.sal_module_table.proofs.types.with_module.Goals as goal

pub with_stmt-requires : goal.with_stmt-requires
with_stmt-requires c = record { ready = c.scope-scope.ensures.ready; modules_are = c.scope-scope.ensures.modules ∙ c.requires; number = c.scope-scope.ensures.number; around_are = refl }
