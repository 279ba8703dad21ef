-- It is the law of followers.
use Rattle.sal_cluster.proofs.Held.{held}
use Rattle.sal_cluster.proofs.laws.stand_bys_hold_the_leaders_trees.Goals as goal

pub returns : goal.returns
returns c = held c.streams_begin_anywhere.ensures.followed
