-- The schema is the last version.
use Rattle.std.proofs.Common.{ap, length, sym, ◌<◌, subst}
use Rattle.sal_schema.specs.declared.table.SchemaTable.{SchemaTable}
use Rattle.sal_follow.specs.Framed.{ExportsOn}
use Rattle.sal_hub.specs.HubHistory.{HubHistory}
use Rattle.sal_resume.specs.Committed.{committed}
use Rattle.sal_cluster.proofs.leader.Leader.frames_from.Goals as goal

pub frames_by-requires : goal.frames_by-requires
frames_by-requires c = subst (λ (h : HubHistory). c.args.domain < length h.world) (sym c.hub.ensures) c.requires

pub returns : goal.returns
returns c =
    let known = c.args.self.now.broker.hub in
    let n = c.args.domain in
    subst (λ (t : SchemaTable). ExportsOn t (committed known n) c.args.next.commit c.args.next.number c.frames_by.result) c.schema_of-schema.ensures
    (subst (λ (h : HubHistory). ExportsOn c.schema_of-schema.result.now (committed h n) c.args.next.commit c.args.next.number c.frames_by.result) c.hub.ensures c.frames_by.ensures)
