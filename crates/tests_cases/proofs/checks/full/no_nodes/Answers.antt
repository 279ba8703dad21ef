-- The statement of the one text is readable.
use Rattle.std.proofs.Common.{◌^◌, IsTrue, List, [], ◌∷◌, Result, refl, ap, sym, subst, ◌∙◌}
use Rattle.sal_stmt.specs.declared.fault.StmtFault.{StmtFault}
use Rattle.sal_stmt.specs.declared.stmt.Stmt.{Stmt}
use Rattle.sal_module_table.proofs.Derivations.{less}
use Rattle.sal_build.specs.Readable.{are_readable}
use Rattle.tests_cases.proofs.checks.full.no_nodes.Goals as goal

pub build-requires : goal.build-requires
build-requires c =
    let each = ap (λ (r : Result Stmt StmtFault). r ∷ []) c.in_ok-module.ensures in
    subst (λ (stmts : List Stmt). IsTrue (are_readable stmts)) (sym (c.deref.ensures.value ∙ c.in_ok-modules.ensures.items))
    (c.what_is_read_is_readable.ensures (_ ∷ []) (c.in_ok-module.module ∷ []) each (less _ (2 ^ 32) refl))
