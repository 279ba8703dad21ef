-- The world is the same.
use Rattle.std.proofs.Common.{◌≤◌, subst}
use Rattle.sal_hub.specs.Upgrades.{upgrades_of}
use Rattle.sal_broker.specs.Seats.{Holding, known}
use Rattle.sal_broker.proofs.held.Held.knows_version.Goals as goal

pub returns : goal.returns
returns c = subst (λ (h : Holding). c.args.version ≤ upgrades_of (known h.view).world → c.args.version ≤ upgrades_of h.found.world) c.self.view_is (λ low. low) c.requires
