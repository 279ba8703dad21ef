-- The one device has one version.
use Rattle.sal.proofs.OneVersion.{alone_version}
use Rattle.examples_sal.proofs.applications.threads.share.Goals as goal

pub open-requires-clause-versions : goal.open-requires-clause-versions
open-requires-clause-versions g c = alone_version _ _ _ c.in_ok-devices.ensures.items c.in_ok-device.ensures.versions
