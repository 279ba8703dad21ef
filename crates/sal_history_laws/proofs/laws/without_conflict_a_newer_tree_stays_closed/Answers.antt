use Rattle.sal_history_laws.proofs.Closing.{without_conflict_stays_closed}
use Rattle.sal_history_laws.proofs.laws.without_conflict_a_newer_tree_stays_closed.Goals as goal

pub returns : goal.returns
returns c = without_conflict_stays_closed
