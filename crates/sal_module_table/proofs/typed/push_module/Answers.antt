use Rattle.std.proofs.Common.{◌∙◌, refl}
use Rattle.sal_module_table.proofs.typed.push_module.Goals as goal

pub push_stmt-requires : goal.push_stmt-requires
push_stmt-requires c = record { ready = c.scope-scope.ensures.ready; modules_are = c.scope-scope.ensures.modules ∙ c.requires; number = c.scope-scope.ensures.number; around_are = refl }
