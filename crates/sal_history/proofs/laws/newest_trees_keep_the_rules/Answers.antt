-- The newest trees by the present version.
use Rattle.sal_history.proofs.Unbroken.{newest_keep}
use Rattle.sal_history.proofs.laws.newest_trees_keep_the_rules.Goals as goal

pub returns : goal.returns
returns c = newest_keep
