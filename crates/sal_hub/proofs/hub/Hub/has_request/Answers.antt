-- The router's calls are those of the log.
use Rattle.std.proofs.Common.{ap, ◌∙◌}
use Rattle.sal_history.specs.declared.call.Call.TheVariants.{NextCall}
use Rattle.sal_hub.specs.Current.{known_of}
use Rattle.sal_hub.specs.HubHistory.{HubHistory}
use Rattle.sal_hub.specs.Waiting.{would_give}
use Rattle.sal_hub.proofs.Waiting.{request_waits}
use Rattle.sal_hub.proofs.hub.Hub.has_request.Goals as goal

pub returns : goal.returns
returns c =
    request_waits (known_of c.self.inside.journal c.self.inside.pipeline) c.self.inside.services.router c.args.client c.has_request.result c.self.invariant.services.router c.has_request.ensures
    ∙ ap (λ (known : HubHistory). would_give known c.args.client NextCall) c.self.view_is
