-- It is that of the number.
use Rattle.std.proofs.Common.{◌<◌, length, ap, sym, ◌∙◌, subst}
use Rattle.sal_cluster.specs.declared.standby.Standing.{Standing}
use Rattle.sal_cluster.specs.StandBys.{follower_at}
use Rattle.sal_cluster.proofs.Followed.{at_index}
use Rattle.sal_cluster.proofs.standby.StandBy.follower.Goals as goal

pub returns : goal.returns
returns c =
    let n = c.args.domain in
    let fs = c.self.inside.standing.followers.items in
    let inside : n < length fs = subst (λ (s : Standing). n < length s.followers.items) (sym c.self.view_is) c.requires in
    c.follower.ensures ∙ at_index fs n c.index.result.now inside c.index.ensures ∙ ap (λ (s : Standing). follower_at s.followers.items n) c.self.view_is
