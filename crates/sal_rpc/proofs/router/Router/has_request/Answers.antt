use Rattle.std.proofs.Common.{subst}
use Rattle.sal_rpc.specs.declared.call.RpcCall.TheVariants.{NextCall}
use Rattle.sal_rpc.specs.Answers.{Gives}
use Rattle.sal_rpc.specs.Routes.{Routes}
use Rattle.sal_rpc.proofs.Kept as kept
use Rattle.sal_rpc.proofs.router.Router.has_request.Goals as goal

pub returns : goal.returns
returns c =
    let old : Routes = record { providers = c.self.inside.providers.entries; requests = c.self.inside.requests.items; queues = c.self.inside.queues.entries } in
    subst (λ (r : Routes). Gives r c.args.client NextCall c.waits.result) c.self.view_is (kept.next_gives old c.args.client c.waits.result c.waits.ensures)
