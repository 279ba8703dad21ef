-- One more is cut.
use Rattle.std.proofs.Common.{◌≡◌, ◌<◌, ap, length, map, get_or, arith}
use Rattle.std.proofs.lemmas.Option.{slice_get-get_or}
use Rattle.sal_hub.specs.PipelineView.{shown}
use Rattle.sal_hub.proofs.Cutting.{cut_none, cut_one, cut_reaches, kept_one}
use Rattle.sal_hub.proofs.pipeline.cut_domains.Goals as goal

pub loop-i-init : goal.loop-i-init
loop-i-init c = record { kept = c.requires.kept; cut = cut_none (map shown c.args.domains.now) }

pub cut_to-requires : goal.cut_to-requires
cut_to-requires c =
    let ds = c.loop-i.domains in
    let d = get_or ds c.loop-i.i c.index-domains-i.result in
    let d_is : d ≡ get_or ds c.loop-i.i d = ap (get_or ds c.loop-i.i) c.index-domains-i.is in
    let counted = slice_get-get_or c.args.counts.now c.loop-i.i 0 (omega arith) in
    record { since = cut_reaches ds (map shown c.args.domains.now) c.args.counts.now c.loop-i.i (get_or c.args.counts.now c.loop-i.i 0) d c.requires.reach (omega arith) d_is counted c.loop-i.invariant.cut }

pub loop-i-preserved : goal.loop-i-preserved
loop-i-preserved c =
    let ds = c.loop-i.domains in
    let d = get_or ds c.loop-i.i c.index-domains-i.result in
    let d_is : d ≡ get_or ds c.loop-i.i d = ap (get_or ds c.loop-i.i) c.index-domains-i.is in
    let within : c.loop-i.i < length ds = omega arith in
    record {
      kept = kept_one ds c.loop-i.i (get_or c.args.counts.now c.loop-i.i 0) d c.cut_to.new.self within d_is c.cut_to.ensures.commits c.loop-i.invariant.kept;
      cut = cut_one ds (map shown c.args.domains.now) c.args.counts.now c.loop-i.i (get_or c.args.counts.now c.loop-i.i 0) d c.cut_to.new.self within d_is (slice_get-get_or c.args.counts.now c.loop-i.i 0 (omega arith)) c.cut_to.ensures.same c.cut_to.ensures.commits c.loop-i.invariant.cut;
    }
