use Rattle.sal_history_laws.proofs.Closing.{lawful_keeps_closed}
use Rattle.sal_history_laws.proofs.laws.lawful_operations_keep_trees_closed.Goals as goal

pub returns : goal.returns
returns c = lawful_keeps_closed
