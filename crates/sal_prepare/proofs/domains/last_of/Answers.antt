-- The last one is that of the last version.
use Rattle.sal_prepare.proofs.Chosen.{last_own}
use Rattle.sal_prepare.proofs.domains.last_of.Goals as goal

pub returns : goal.returns
returns c = last_own c.args.versions.now c.index-versions-versions.result c.requires c.index-versions-versions.is
