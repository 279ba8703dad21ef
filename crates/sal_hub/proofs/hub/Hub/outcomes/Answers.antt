-- The outcomes are the log's.
use Rattle.std.proofs.Common.{ap, ◌∙◌}
use Rattle.sal_history.specs.History.{history, outcomes}
use Rattle.sal_hub.specs.HubHistory.{HubHistory}
use Rattle.sal_hub.proofs.hub.Hub.outcomes.Goals as goal

pub returns : goal.returns
returns c =
    c.deref.ensures.value ∙ c.self.invariant.kept.current.outcomes ∙ ap (λ (known : HubHistory). outcomes (history known.world known.log)) c.self.view_is
