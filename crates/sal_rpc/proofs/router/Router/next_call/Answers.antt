use Rattle.std.proofs.Common.{refl, sym, ◌∙◌, subst}
use Rattle.sal_rpc.specs.declared.call.RpcCall.TheVariants.{NextCall}
use Rattle.sal_rpc.specs.declared.call.RpcReply.TheVariants.{Handed, Nothing}
use Rattle.sal_rpc.specs.Answers.{Makes}
use Rattle.sal_rpc.specs.Routes.{Routes}
use Rattle.sal_rpc.proofs.Kept as kept
use Rattle.sal_rpc.proofs.router.Router.next_call.Goals as goal

pub returns-in-None : goal.returns-in-None
returns-in-None c =
    let old : Routes = record { providers = c.self.inside.providers.entries; requests = c.self.inside.requests.items; queues = c.self.inside.queues.entries } in
    let new : Routes = record { providers = c.self.inside.providers.entries; requests = c.self.inside.requests.items; queues = c.next_of.new.queues.entries } in
    subst (λ (o : Routes). Makes o new c.args.client NextCall Nothing) c.self.view_is
    (kept.next_none old new c.args.client (sym c.next_of.ensures.first ∙ c.in-None.is) refl refl c.next_of.ensures.rest)

pub returns-in-Some : goal.returns-in-Some
returns-in-Some c =
    let old : Routes = record { providers = c.self.inside.providers.entries; requests = c.self.inside.requests.items; queues = c.self.inside.queues.entries } in
    let new : Routes = record { providers = c.self.inside.providers.entries; requests = c.hand_out.new.requests.items; queues = c.next_of.new.queues.entries } in
    subst (λ (o : Routes). Makes o new c.args.client NextCall (Handed c.in-Some.request)) c.self.view_is
    (kept.next_made old new c.args.client c.in-Some.request (sym c.next_of.ensures.first ∙ c.in-Some.is) refl c.hand_out.ensures c.next_of.ensures.rest)
