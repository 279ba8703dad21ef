-- The schema is the last version.
use Rattle.std.proofs.Common.{length, sym, ◌<◌, subst}
use Rattle.sal_schema.specs.declared.table.SchemaTable.{SchemaTable}
use Rattle.sal_follow.specs.Framed.{IsSnapshot}
use Rattle.sal_hub.specs.HubHistory.{HubHistory}
use Rattle.sal_resume.specs.Newest.{newest}
use Rattle.sal_cluster.proofs.leader.Leader.newest_frame.Goals as goal

pub snapshot_by-requires : goal.snapshot_by-requires
snapshot_by-requires c = subst (λ (h : HubHistory). c.args.domain < length h.world) (sym c.hub.ensures) c.requires

pub returns : goal.returns
returns c =
    let known = c.args.self.now.broker.hub in
    let n = c.args.domain in
    subst (λ (t : SchemaTable). IsSnapshot t c.args.number (newest known n) c.snapshot_by.result) c.schema_of-schema.ensures
    (subst (λ (h : HubHistory). IsSnapshot c.schema_of-schema.result.now c.args.number (newest h n) c.snapshot_by.result) c.hub.ensures c.snapshot_by.ensures)
