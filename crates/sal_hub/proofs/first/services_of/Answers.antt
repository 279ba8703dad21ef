-- Each service begins without calls.
use Rattle.std.proofs.Common.{◌∙◌}
use Rattle.sal_hub.proofs.first.services_of.Goals as goal

pub returns : goal.returns
returns c world count = record { mounts = record { devices = c.new.ensures.devices ∙ count; calls = c.new.ensures.calls }; router = c.new-2.ensures; notes = c.new-3.ensures }
