-- They are those of the hub.
use Rattle.std.proofs.Common.{◌≤◌, length, ap, sym, ◌∙◌, subst}
use Rattle.sal_hub.specs.HubHistory.{HubHistory}
use Rattle.sal_cluster.specs.Leaders.{are_newest}
use Rattle.sal_cluster.proofs.leader.Leader.are_newest.Goals as goal

pub are_newest-requires : goal.are_newest-requires
are_newest-requires c = subst (λ (h : HubHistory). length h.world ≤ 64) (sym c.hub.ensures) c.are_few.ensures

pub returns : goal.returns
returns c = c.are_newest.ensures ∙ ap (λ (h : HubHistory). are_newest h c.args.self.now.bases 0 c.args.newest.now) c.hub.ensures
