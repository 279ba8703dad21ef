-- Nothing is pending, and the numbers are those of the newest commits; or the leader is as it was.
use Rattle.std.proofs.Common.{refl, sym}
use Rattle.sal_cluster.proofs.leader.Leader.next_epoch.Goals as goal

pub returns-in-None : goal.returns-in-None
returns-in-None c = (sym c.in-None.ensures, c.begun.ensures)

pub returns-in-Some : goal.returns-in-Some
returns-in-Some c = (sym c.in-Some.ensures, refl)
