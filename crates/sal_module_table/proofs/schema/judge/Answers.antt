use Rattle.std.proofs.Common.{Result, subst}
use Rattle.sal_types.specs.Reading.{GivesUnless}
use Rattle.sal_module.specs.declared.fault.BuildFault.{BuildFault}
use Rattle.sal_module.specs.declared.fault.BuildFault.TheVariants.{NoMemory}
use Rattle.sal_schema.specs.declared.table.SchemaTable.{SchemaTable}
use Rattle.sal_module_table.proofs.OldNone.{judged-first}
use Rattle.sal_module_table.proofs.schema.judge.Goals as goal

pub returns : goal.returns
returns c =
    subst (λ (made : Result SchemaTable BuildFault). GivesUnless NoMemory (λ table. table) c.judge_on.result made) (judged-first c.args.modules.now c.args.forest.now) c.judge_on.ensures
