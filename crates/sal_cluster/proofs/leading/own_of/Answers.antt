-- It is the first one.
use Rattle.std.proofs.Common.{◌∙◌}
use Rattle.sal_cluster.proofs.Followed.{at_index}
use Rattle.sal_cluster.proofs.leading.own_of.Goals as goal

pub returns : goal.returns
returns c = c.follower.ensures ∙ at_index c.args.followers.now 0 c.index-followers-0.result c.requires c.index-followers-0.is
