-- One follower takes the piece.
use Rattle.std.proofs.Common.{◌<◌, length, ap, sym, ◌∙◌, subst}
use Rattle.sal_cluster.specs.declared.standby.Standing.{Standing}
use Rattle.sal_cluster.specs.StandBys.{FeedsAt}
use Rattle.sal_cluster.proofs.standby.StandBy.feed.Goals as goal

pub feed_at-requires : goal.feed_at-requires
feed_at-requires c = subst (λ (s : Standing). c.args.domain < length s.followers.items) (sym c.self.view_is) c.requires

pub invariant_of-self : goal.invariant_of-self
invariant_of-self c = c.feed_at.ensures.many ∙ c.self.invariant

pub returns-clause-feeds : goal.returns-clause-feeds
returns-clause-feeds c =
    subst (λ (s : Standing). FeedsAt s.followers.items c.feed_at.new.followers.items c.args.domain c.args.piece.now c.feed_at.result) c.self.view_is c.feed_at.ensures

pub returns-clause-ground : goal.returns-clause-ground
returns-clause-ground c = ap (λ (s : Standing). s.ground) c.self.view_is
