use Rattle.std.proofs.Common.{◌∙◌, sym, ap}
use Rattle.sal_module.specs.Faults.{least}
use Rattle.sal_typedefs.specs.Spots.{site_in}
use Rattle.sal_typedefs.specs.Judgements.{merged}
use Rattle.sal_typedefs.proofs.LeastLists.{merge-least}
use Rattle.sal_module_table.specs.Types.{faults_at}
use Rattle.sal_module_table.proofs.Walked.{here-type}
use Rattle.sal_module_table.proofs.types.with_here.Goals as goal

pub returns : goal.returns
returns c =
    let a = c.args in
    let scope = a.scope.now in
    let site = site_in scope.number scope.around.items a.stmt.now in
    c.merge.ensures ∙ ap (merged a.best) c.in_ok-found.ensures ∙ merge-least a.best (faults_at a.asked scope.typedefs.now site)
    ∙ ap (least a.best) (here-type a.asked scope.typedefs.now site (sym c.is_named.ensures ∙ c.if-not-is_named.false))
