-- One more is cut.
use Rattle.std.proofs.Common.{◌<◌, length, arith}
use Rattle.sal_hub.proofs.Noted.{cut_one_more}
use Rattle.sal_hub.proofs.failures.cut_failures.Goals as goal

pub loop-i-preserved : goal.loop-i-preserved
loop-i-preserved c =
    let inside : c.loop-i.i < length c.args.failures.now = omega arith in
    cut_one_more c.args.count c.args.failures.now c.loop-i.failures c.loop-i.i c.up_to.result _ inside c.loop-i.invariant c.up_to.ensures
