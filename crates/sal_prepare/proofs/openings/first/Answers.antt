use Rattle.sal_prepare.proofs.Chosen.{first_shared}
use Rattle.sal_prepare.proofs.openings.first.Goals as goal

pub returns : goal.returns
returns c = first_shared c.args.versions.now c.index-versions-0.result c.requires c.index-versions-0.is
