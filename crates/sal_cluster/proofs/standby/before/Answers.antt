-- The schema is shared.
use Rattle.std.proofs.Common.{ap, ◌∙◌}
use Rattle.sal_schema.specs.declared.table.SchemaTable.{SchemaTable}
use Rattle.sal_follow.specs.States.{Following}
use Rattle.sal_follow.specs.Stream.{fresh_at}
use Rattle.sal_cluster.proofs.standby.before.Goals as goal

pub returns : goal.returns
returns c =
    let by : SchemaTable → Following = λ t. record { schema = t; held = fresh_at c.args.first } in
    c.in_ok-follower.ensures ∙ ap by c.in_ok-schema.ensures
