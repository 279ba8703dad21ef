-- The router's calls are those of the log.
use Rattle.std.proofs.Common.{ap, ◌∙◌, subst}
use Rattle.sal_rpc.specs.declared.call.RpcCall.TheVariants as rpcs
use Rattle.sal_rpc.specs.Answers.{Gives}
use Rattle.sal_history.specs.declared.call.Call.TheVariants.{Collect}
use Rattle.sal_hub.specs.Current.{known_of}
use Rattle.sal_hub.specs.HubHistory.{HubHistory}
use Rattle.sal_hub.specs.Waiting.{would_give}
use Rattle.sal_hub.proofs.Waiting.{answer_waits}
use Rattle.sal_hub.proofs.hub.Hub.has_answer.Goals as goal

pub returns : goal.returns
returns c =
    let router = c.self.inside.services.router in
    answer_waits (known_of c.self.inside.journal c.self.inside.pipeline) router c.args.client c.args.id.number c.has_answer.result c.self.invariant.services.router
    (subst (λ n. Gives router c.args.client (rpcs.Collect n) c.has_answer.result) c.number.ensures c.has_answer.ensures)
    ∙ ap (λ (known : HubHistory). would_give known c.args.client (Collect c.args.id.number)) c.self.view_is
