-- There is a follower by each last version.
use Rattle.std.proofs.Common.{length, ap, ◌∙◌}
use Rattle.std.proofs.lemmas.List.{length-map}
use Rattle.sal_script.specs.Tables.{last_among}
use Rattle.sal_cluster.proofs.Followed.{as_many}
use Rattle.sal_cluster.proofs.standby.StandBy.open.Goals as goal

pub invariant_of-result : goal.invariant_of-result
invariant_of-result c = ap length c.in-Ok.ensures ∙ as_many c.args.firsts.now 0 _ ∙ length-map c.in_ok-ground.ground.readers last_among
