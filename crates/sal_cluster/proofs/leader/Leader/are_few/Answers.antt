-- There are as many schemas.
use Rattle.std.proofs.Common.{length, ap, sym, ◌∙◌, arith}
use Rattle.std.proofs.lemmas.List.{length-map}
use Rattle.std.specs.declared.alloc.Global.{Global}
use Rattle.std.specs.declared.sync.Arc.{Arc}
use Rattle.sal_schema.specs.declared.table.SchemaTable.{SchemaTable}
use Rattle.sal_history.specs.World.{Domain, version_in}
use Rattle.sal_cluster.proofs.leader.Leader.are_few.Goals as goal

pub returns : goal.returns
returns c =
    let xs = c.schemas.result.now in
    let long =
    sym (length-map xs (λ (s : Arc SchemaTable Global). s.value)) ∙ ap length c.schemas.ensures.tables ∙ length-map c.args.self.now.broker.hub.world (λ (d : Domain). version_in d (length d.upgrades)) in
    omega (arith, long, c.schemas.ensures.few)
