use Rattle.std.proofs.Common.{length}
use Rattle.sal_check.proofs.trail.+gone_on.Given as goal

abbrev pub decreases-gone_on : goal.decreases-gone_on
decreases-gone_on l = length l.steps.now
