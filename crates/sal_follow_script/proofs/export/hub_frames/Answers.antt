-- The domain that the hub keeps has the trees of the log.
use Rattle.std.proofs.Common.{◌<◌, length, arith}
use Rattle.sal_follow_script.proofs.Leader.{exported_log}
use Rattle.sal_follow_script.proofs.export.hub_frames.Goals as goal

pub domain_frames-requires : goal.domain_frames-requires
domain_frames-requires c =
    let there : 0 < length c.domains.result.now = omega (arith, c.domains.ensures.all, c.requires.some) in
    (c.domains.ensures.each 0 c.index-domains-0.result there c.index-domains-0.is).kept

pub returns : goal.returns
returns c =
    let d = c.index-domains-0.result in
    let there : 0 < length c.domains.result.now = omega (arith, c.domains.ensures.all, c.requires.some) in
    exported_log c.args.hub.now d c.args.schema.now c.domain_frames.result (c.domains.ensures.each 0 d there c.index-domains-0.is) c.requires.schema c.domain_frames.ensures
