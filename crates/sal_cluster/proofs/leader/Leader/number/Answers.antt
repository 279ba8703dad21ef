-- It is that of the hub.
use Rattle.std.proofs.Common.{◌<◌, ◌^◌, length, sym, subst}
use Rattle.std.specs.Prelude.{SomeIff}
use Rattle.sal_hub.specs.HubHistory.{HubHistory}
use Rattle.sal_cluster.specs.Leaders.{number_of}
use Rattle.sal_cluster.proofs.leader.Leader.number.Goals as goal

pub number-requires : goal.number-requires
number-requires c = subst (λ (h : HubHistory). c.args.domain < length h.world) (sym c.hub.ensures) c.requires

pub returns : goal.returns
returns c =
    subst (λ (h : HubHistory). SomeIff c.number.result (number_of h c.args.self.now.bases c.args.domain < 2 ^ 64) (number_of h c.args.self.now.bases c.args.domain)) c.hub.ensures c.number.ensures
