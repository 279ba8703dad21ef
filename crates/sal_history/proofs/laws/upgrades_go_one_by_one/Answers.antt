-- The versions before and after an upgrade.
use Rattle.sal_history.proofs.Unbroken.{one_by_one}
use Rattle.sal_history.proofs.laws.upgrades_go_one_by_one.Goals as goal

pub returns : goal.returns
returns c = one_by_one
