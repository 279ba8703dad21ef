use Rattle.std.proofs.Common.{length}
use Rattle.sal_tree.proofs.reach.+reached.Given as goal

abbrev pub decreases-reached : goal.decreases-reached
decreases-reached l = length l.steps.now
