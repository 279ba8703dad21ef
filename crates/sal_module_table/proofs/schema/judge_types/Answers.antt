-- No pass before the lists finds a fault.
use Rattle.std.proofs.Common.{◌≡◌, ℕ, List, Result, None, rules}
use Rattle.sal_types.specs.Reading.{GivesUnless}
use Rattle.sal_stmt.specs.declared.stmt.Stmt.{Stmt}
use Rattle.sal_module.specs.declared.fault.BuildFault.{BuildFault}
use Rattle.sal_module.specs.declared.fault.BuildFault.TheVariants.{NoMemory}
use Rattle.sal_module.specs.Faults.{least}
use Rattle.sal_grouping.specs.declared.forest.Branch.{Branch}
use Rattle.sal_schema.specs.declared.table.SchemaTable.{SchemaTable}
use Rattle.sal_module_table.specs.Build.{name_faults, other_faults, listed, judged_on}
use Rattle.sal_module_table.proofs.schema.judge_types.Goals as goal

left : (old : ℕ) (stmts : List Stmt) (forest : List Branch) (result : Result SchemaTable BuildFault) → least None (name_faults stmts forest) ≡ None
    → least None (other_faults old stmts) ≡ None → GivesUnless NoMemory (λ table. table) result (listed stmts forest)
    → GivesUnless NoMemory (λ table. table) result (judged_on old stmts forest)
left old stmts forest result names others given = rw (names, others) given

pub returns : goal.returns
returns c =
    let s = c.args.sources.now in
    let found : c.in_ok-found.field-0 ≡ least None (other_faults s.old s.modules.now) = c.in_ok-found.ensures in
    let none : least None (other_faults s.old s.modules.now) ≡ None = search rules in
    left s.old s.modules.now s.forest.now c.judge_lists.result c.requires.names none c.judge_lists.ensures
