use Rattle.sal_prepare.proofs.Resuming.{at-version}
use Rattle.sal_prepare.proofs.resumed.version_at.Goals as goal

pub returns : goal.returns
returns c = at-version c.args.versions.now c.args.version c.index-versions-version.result c.requires c.index-versions-version.is
