-- Nothing came yet.
use Rattle.std.proofs.Common.{ap}
use Rattle.sal.specs.Followers.{Following}
use Rattle.sal.proofs.Counted.{new_fed}
use Rattle.examples_sal.proofs.epochs.standby.begin.Goals as goal

pub returns : goal.returns
returns c = new_fed c.in_ok-follower.follower (ap (λ (f : Following). f.held) c.in_ok-follower.ensures)
