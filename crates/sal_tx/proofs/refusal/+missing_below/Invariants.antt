-- It goes down the steps.
use Rattle.std.proofs.Common.{length}
use Rattle.sal_tx.proofs.refusal.+missing_below.Given as goal

abbrev pub decreases-missing_below : goal.decreases-missing_below
decreases-missing_below l = length l.steps.now
