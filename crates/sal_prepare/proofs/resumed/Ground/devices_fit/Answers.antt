-- The schemas of the devices are their versions.
use Rattle.std.proofs.Common.{List, drop, map, ap, sym, ◌∙◌}
use Rattle.std.specs.declared.alloc.Global.{Global}
use Rattle.std.specs.declared.sync.Arc.{Arc}
use Rattle.sal_schema.specs.declared.table.SchemaTable.{SchemaTable}
use Rattle.sal_client.specs.Lists.{alone}
use Rattle.sal_prepare.specs.Resumed.{are_fitting}
use Rattle.sal_prepare.specs.Scripted.{tables_in}
use Rattle.sal_prepare.specs.declared.resumed.Ground.{Ground}
use Rattle.sal_prepare.proofs.resumed.Ground.devices_fit.Goals as goal

pub returns : goal.returns
returns c =
    let g : Ground = c.args.self.now in
    let given = c.args.given.now in
    c.all_fit.ensures ∙ ap (λ (ss : List (Arc SchemaTable Global)). are_fitting (map alone (tables_in ss)) given) c.deref.ensures.value
    ∙ ap (λ (ts : List (List SchemaTable)). are_fitting (drop 1 ts) given) (sym g.read)
