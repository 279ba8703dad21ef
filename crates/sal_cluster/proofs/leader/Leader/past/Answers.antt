-- It is that of the hub.
use Rattle.std.proofs.Common.{ap, ◌∙◌}
use Rattle.sal_history.specs.World.{rules_of}
use Rattle.sal_hub.specs.HubHistory.{HubHistory}
use Rattle.sal_cluster.specs.Leaders.{version_of}
use Rattle.sal_cluster.proofs.leader.Leader.past.Goals as goal

pub returns-clause-version : goal.returns-clause-version
returns-clause-version c = c.past_of.ensures.version ∙ ap version_of c.hub.ensures

pub returns-clause-rules : goal.returns-clause-rules
returns-clause-rules c = c.past_of.ensures.rules ∙ ap (λ (h : HubHistory). rules_of h.world 0) c.hub.ensures
