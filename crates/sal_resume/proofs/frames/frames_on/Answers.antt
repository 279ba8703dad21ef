use Rattle.std.proofs.Common.{◌<◌, length, map, subst, arith}
use Rattle.sal_schema.specs.declared.table.SchemaTable.{SchemaTable}
use Rattle.sal_follow.specs.Framed.{ExportsOn, trees_of}
use Rattle.sal_resume.proofs.Committing.{exported-committed}
use Rattle.sal_resume.proofs.frames.frames_on.Goals as goal

pub returns : goal.returns
returns c =
    let d = c.index-domains-domain in
    let inside : c.args.domain < length c.domains.result.now = omega (arith, c.requires, c.domains.ensures.all) in
    exported-committed c.args.hub.now c.args.domain c.args.next.commit c.args.next.number d.result c.domain_frames.result (c.domains.ensures.each c.args.domain d.result inside d.is)
    (subst (λ (table : SchemaTable). ExportsOn table (map trees_of d.result.commits.items) c.args.next.commit c.args.next.number c.domain_frames.result) c.deref.ensures c.domain_frames.ensures)
