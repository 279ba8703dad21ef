use Rattle.sal_prepare.proofs.Chosen.{later_shared}
use Rattle.sal_prepare.proofs.openings.later.Goals as goal

pub returns : goal.returns
returns c = later_shared c.args.versions.now
