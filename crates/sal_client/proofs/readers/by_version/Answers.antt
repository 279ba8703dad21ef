-- The version of the number, or the last one past it.
use Rattle.std.proofs.Common.{rules}
use Rattle.sal_client.proofs.Compiled.{version_here, version_past}
use Rattle.sal_client.proofs.readers.by_version.Goals as goal

pub returns-then-index-versions : goal.returns-then-index-versions
returns-then-index-versions c = version_here c.args.versions.now c.args.version c.index-versions-index.result (search rules) c.index-versions-index.is

pub returns-else-index-versions : goal.returns-else-index-versions
returns-else-index-versions c = version_past c.args.versions.now c.args.version c.index-versions-versions.result (search rules) c.requires c.index-versions-versions.is
