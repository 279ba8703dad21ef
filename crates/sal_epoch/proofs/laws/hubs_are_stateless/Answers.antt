use Rattle.sal_epoch.proofs.Next.{hubs-stateless}
use Rattle.sal_epoch.proofs.laws.hubs_are_stateless.Goals as goal

pub returns : goal.returns
returns c = hubs-stateless
