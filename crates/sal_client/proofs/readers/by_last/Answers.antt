-- The last one is that of the last version.
use Rattle.sal_client.proofs.Compiled.{last_here}
use Rattle.sal_client.proofs.readers.by_last.Goals as goal

pub returns : goal.returns
returns c = last_here c.args.versions.now c.index-versions-versions.result c.requires c.index-versions-versions.is
