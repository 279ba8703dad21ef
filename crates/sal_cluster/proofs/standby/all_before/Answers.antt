-- The schemas are the last versions.
use Rattle.std.proofs.Common.{◌≡◌, List, ap, ◌∙◌, subst}
use Rattle.std.specs.Prelude.{IfOk}
use Rattle.sal_schema.specs.declared.table.SchemaTable.{SchemaTable}
use Rattle.sal_prepare.specs.Scripted.{tables_in}
use Rattle.sal_cluster.specs.StandBys.{before_from}
use Rattle.sal_cluster.proofs.standby.all_before.Goals as goal

pub returns : goal.returns
returns c =
    let same = ap tables_in c.deref.ensures.value ∙ c.args.ground.now.tables in
    subst (λ (ts : List SchemaTable). IfOk c.each_before.result (λ fs. fs.items ≡ before_from c.args.firsts.now 0 ts)) same c.each_before.ensures
