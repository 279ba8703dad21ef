-- They are those of the hub.
use Rattle.std.proofs.Common.{◌≡◌, ℕ, ◌<◌, ◌≤◌, ◌-◌, ◌^◌, length, sym, subst}
use Rattle.std.specs.Prelude.{min}
use Rattle.sal_hub.specs.HubHistory.{HubHistory}
use Rattle.sal_cluster.specs.Leaders.{base_of, number_of}
use Rattle.sal_cluster.proofs.leader.Leader.moved_on.Goals as goal

pub moved_on-requires : goal.moved_on-requires
moved_on-requires c = subst (λ (h : HubHistory). length h.world ≤ 64) (sym c.hub.ensures) c.requires

pub returns : goal.returns
returns c =
    subst (λ (h : HubHistory). (n : ℕ) → n < length h.world → base_of c.moved_on.result n ≡ min (number_of h c.args.self.now.bases n) (2 ^ 64 - 1)) c.hub.ensures c.moved_on.ensures
