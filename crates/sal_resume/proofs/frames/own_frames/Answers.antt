-- The commits that are kept are those of the log.
use Rattle.std.proofs.Common.{◌<◌, length, arith}
use Rattle.sal_resume.proofs.Committing.{exported-by}
use Rattle.sal_resume.proofs.frames.own_frames.Goals as goal

pub returns : goal.returns
returns c =
    let d = c.index-domains-0 in
    let inside : 0 < length c.domains.result.now = omega (arith, c.stays_lawful.ensures.some, c.domains.ensures.all) in
    exported-by c.args.schema.now c.args.hub.now 0 c.args.next.commit c.args.next.number d.result c.domain_frames.result (c.domains.ensures.each 0 d.result inside d.is) c.domain_frames.ensures
