-- The commits that are kept are those of the log.
use Rattle.std.proofs.Common.{◌<◌, length, arith}
use Rattle.sal_resume.proofs.Committing.{exported-by}
use Rattle.sal_resume.proofs.frames.frames_by.Goals as goal

pub returns : goal.returns
returns c =
    let d = c.index-domains-domain in
    let n = c.args.domain in
    let inside : n < length c.domains.result.now = omega (arith, c.requires, c.domains.ensures.all) in
    exported-by c.args.schema.now c.args.hub.now n c.args.next.commit c.args.next.number d.result c.domain_frames.result (c.domains.ensures.each n d.result inside d.is) c.domain_frames.ensures
