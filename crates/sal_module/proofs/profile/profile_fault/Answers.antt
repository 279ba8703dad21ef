use Rattle.std.proofs.Common.{None}
use Rattle.sal_module.specs.Profile.{module_faults}
use Rattle.sal_module.proofs.Numbered.{least_more}
use Rattle.sal_module.proofs.profile.profile_fault.Goals as goal

pub loop-i-preserved : goal.loop-i-preserved
loop-i-preserved c =
    least_more module_faults c.args.stmts.now c.loop-i.i c.index-stmts-i.result None c.loop-i.best c.with_module-best.result
    c.loop-i-test.true c.index-stmts-i.is c.loop-i.invariant c.with_module-best.ensures
