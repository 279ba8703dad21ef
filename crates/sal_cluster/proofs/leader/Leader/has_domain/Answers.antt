-- It is that of the hub.
use Rattle.std.proofs.Common.{◌≡◌, ◌<◌, true, length, ap, ◌∙◌, subst}
use Rattle.sal_hub.specs.HubHistory.{HubHistory}
use Rattle.sal_cluster.specs.Leaders.{is_domain}
use Rattle.sal_cluster.proofs.leader.Leader.has_domain.Goals as goal

pub returns-clause-is : goal.returns-clause-is
returns-clause-is c = c.has_domain.ensures.is ∙ ap (λ (h : HubHistory). is_domain c.args.domain (length h.world)) c.hub.ensures

pub returns-clause-inside : goal.returns-clause-inside
returns-clause-inside c = subst (λ (h : HubHistory). c.has_domain.result ≡ true → c.args.domain < length h.world) c.hub.ensures c.has_domain.ensures.inside
