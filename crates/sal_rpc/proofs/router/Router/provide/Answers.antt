use Rattle.std.proofs.Common.{◌≡◌, None, refl, sym, ◌∙◌, subst}
use Rattle.std.specs.declared.result.Result.{Result}
use Rattle.sal_rpc.specs.declared.call.RpcCall.TheVariants.{Provide}
use Rattle.sal_rpc.specs.declared.call.RpcFault.{RpcFault}
use Rattle.sal_rpc.specs.declared.call.RpcFault.TheVariants.{ProviderTaken}
use Rattle.sal_rpc.specs.declared.call.RpcReply.TheVariants.{Accepted}
use Rattle.sal_rpc.specs.Answers.{Answers, IsRefused, Makes}
use Rattle.sal_rpc.specs.Routes.{Routes, provider_in, service}
use Rattle.sal_rpc.proofs.Kept as kept
use Rattle.sal_rpc.proofs.router.Router.provide.Goals as goal
use Rattle.sal_rpc.proofs.Services.{none-of}
use Rattle.sal_rpc.proofs.router.Router.provide.Goals.{in-Ok, in-Err}

pub returns-then-contains_key : goal.returns-then-contains_key
returns-then-contains_key c =
    let old : Routes = record { providers = c.self.inside.providers.entries; requests = c.self.inside.requests.items; queues = c.self.inside.queues.entries } in
    subst (λ (r : Routes). IsRefused r r c.args.client (Provide c.args.rpc c.args.context) (ProviderTaken c.args.rpc)) c.self.view_is
    (record { made = kept.provide_refused old c.args.client c.args.rpc c.args.context (sym c.contains_key.ensures ∙ c.if-contains_key.true); same = refl })

pub returns : goal.returns
returns c =
    let old : Routes = record { providers = c.self.inside.providers.entries; requests = c.self.inside.requests.items; queues = c.self.inside.queues.entries } in
    let new : Routes = record { providers = c.register.new.providers.entries; requests = c.self.inside.requests.items; queues = c.self.inside.queues.entries } in
    let free : provider_in old.providers (service c.args.rpc c.args.context) ≡ None = none-of (provider_in old.providers (service c.args.rpc c.args.context)) (sym c.contains_key.ensures ∙ c.if-contains_key.false) in
    elim c.match-register.branch [
      | in-Ok w ↦ subst (λ (r : Result (Unit {0}) RpcFault). Answers c.args.self.now new c.args.client (Provide c.args.rpc c.args.context) (λ _. Accepted) r) (sym w.result-is)
          (subst (λ (o : Routes). Makes o new c.args.client (Provide c.args.rpc c.args.context) Accepted) c.self.view_is
          (kept.provide_made old new c.args.client c.args.rpc c.args.context refl refl free w.in-Ok.ensures.ok))
      | in-Err w ↦ subst (λ (r : Result (Unit {0}) RpcFault). Answers c.args.self.now new c.args.client (Provide c.args.rpc c.args.context) (λ _. Accepted) r) (sym w.result-is)
          ((λ i. record { providers = w.in-Err.ensures.err i; requests = c.self.inside.requests.items; queues = c.self.inside.queues.entries }) ∙ c.self.view_is)
    ]
