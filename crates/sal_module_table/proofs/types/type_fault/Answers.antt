use Rattle.std.proofs.Common.{rules, ◌≡◌, ◌∙◌, ◌<◌, ℕ, [], None, List, length, take, get_or, ap, sym, arith}
use Rattle.std.proofs.lemmas.Grind.{common_steps}
use Rattle.sal_stmt.specs.declared.stmt.Stmt.{Stmt}
use Rattle.sal_module.specs.declared.fault.Found.{Found}
use Rattle.sal_module.specs.Faults.{least}
use Rattle.sal_grouping.proofs.Places.{least_more}
use Rattle.sal_typedefs.specs.Spots.{site_in}
use Rattle.sal_module_table.specs.Types.{faults_in}
use Rattle.sal_module_table.proofs.Walked.{modules-faults}
use Rattle.sal_module_table.proofs.types.type_fault.Goals as goal

pub with_module-requires : goal.with_module-requires
with_module-requires c = c.requires.tops ∙ sym c.requires.typedefs

pub loop-m-preserved : goal.loop-m-preserved
loop-m-preserved c =
    let a = c.args in
    let m = c.loop-m.m in
    let stmts = a.modules.now in
    let stmt = c.index-stmts-m.result in
    let f : ℕ → Stmt → List Found = λ k s. faults_in a.asked 64 stmts (site_in k [] s) in
    let inside : m < length stmts = omega (arith, ap length c.items-stmts.ensures.value, c.loop-m-test.true) in
    let is : stmt ≡ get_or stmts m stmt = search rules in
    let step = rw c.requires.typedefs at c.in_ok-best.ensures in
    least_more f stmts m stmt None c.loop-m.best c.in_ok-best.best inside is c.loop-m.invariant step

pub returns : goal.returns
returns c =
    let a = c.args in
    let stmts = a.modules.now in
    let count = ap length c.items-stmts.ensures.value in
    let whole : take c.loop-m.m stmts ≡ stmts = grind (arith, common_steps) in
    let all = rw whole at c.loop-m.invariant in
    all ∙ ap (least None) (modules-faults a.asked stmts)
