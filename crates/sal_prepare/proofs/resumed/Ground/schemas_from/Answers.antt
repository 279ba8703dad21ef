-- The version is one of the schemas.
use Rattle.std.proofs.Common.{◌<◌, List, length, ap, subst, arith}
use Rattle.std.proofs.lemmas.List.{length-map}
use Rattle.std.specs.declared.alloc.Global.{Global}
use Rattle.std.specs.declared.sync.Arc.{Arc}
use Rattle.sal_schema.specs.declared.table.SchemaTable.{SchemaTable}
use Rattle.sal_script.specs.Tables.{versions_in}
use Rattle.sal_prepare.specs.Scripted.{tables_in}
use Rattle.sal_prepare.specs.declared.resumed.Ground.{Ground}
use Rattle.sal_prepare.proofs.resumed.Ground.schemas_from.Goals as goal

pub from-requires : goal.from-requires
from-requires c =
    let g : Ground = c.args.self.now in
    let inside : c.args.version < length (tables_in g.all.own.items) = subst (λ (ts : List (List SchemaTable)). c.args.version < length (versions_in ts 0)) g.read c.requires in
    let same = length-map g.all.own.items (λ (s : Arc SchemaTable Global). s.value) in
    let long = ap length c.deref.ensures.value in
    omega (arith, inside, same, long)
