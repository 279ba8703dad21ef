-- The trees after a submission that is done.
use Rattle.sal_history.proofs.Decisions.{no_breach}
use Rattle.sal_history.proofs.laws.done_leaves_no_breach.Goals as goal

pub returns : goal.returns
returns c = no_breach
