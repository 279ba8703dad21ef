-- Each base is 0.
use Rattle.std.proofs.Common.{refl}
use Rattle.sal_cluster.proofs.leader.Leader.first.Goals as goal

pub returns-clause-first : goal.returns-clause-first
returns-clause-first c = record { bases = c.zeros.ensures; version = refl }
