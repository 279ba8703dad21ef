use Rattle.std.proofs.Common.{◌≡◌, ℕ, ◌+◌, [], ◌∷◌, ◌++◌, if◌then◌else◌, false, None, refl, ap, sym, ◌∙◌, subst, arith, length, nat_eq}
use Rattle.sal_rpc.specs.declared.call.RpcCall.TheVariants.{Invoke}
use Rattle.sal_rpc.specs.declared.call.RpcFault.TheVariants.{NoProvider}
use Rattle.sal_rpc.specs.declared.call.RpcReply.TheVariants.{CallMade}
use Rattle.sal_rpc.specs.Answers.{IsRefused, Makes}
use Rattle.sal_rpc.specs.Routes.{Routes, queue_in}
use Rattle.sal_rpc.proofs.Kept as kept
use Rattle.std.proofs.lemmas.Grind.{common_steps}
use Rattle.sal_rpc.specs.declared.call.Request.{Request}
use Rattle.sal_rpc.specs.declared.routes.Sent.{Sent}
use Rattle.sal_rpc.proofs.router.Router.invoke.Goals as goal

pub returns-in_default : goal.returns-in_default
returns-in_default c =
    let old : Routes = record { providers = c.self.inside.providers.entries; requests = c.self.inside.requests.items; queues = c.self.inside.queues.entries } in
    subst (λ (r : Routes). IsRefused r r c.args.client (Invoke c.args.rpc c.args.context c.args.input) (NoProvider c.args.rpc)) c.self.view_is
    (record { made = kept.invoke_refused old c.args.client c.args.rpc c.args.context c.args.input (sym c.owner_of.ensures ∙ c.in_default.is); same = refl })

pub returns : goal.returns
returns c =
    let old : Routes = record { providers = c.self.inside.providers.entries; requests = c.self.inside.requests.items; queues = c.self.inside.queues.entries } in
    let new : Routes = record { providers = c.self.inside.providers.entries; requests = c.push.new.self.items; queues = c.send.new.queues.entries } in
    let fresh : Sent = record { by = c.args.client; owner = c.in-Some.owner; handed = false; answer = None } in
    let grows : c.push.new.self.items ≡ c.self.inside.requests.items ++ fresh ∷ [] = grind (arith, common_steps, c.push.ensures.items, c.unwrap.ensures, c.reserve.ensures.items) in
    let many : c.len.result ≡ length c.self.inside.requests.items = grind (arith, common_steps, c.len.ensures, c.reserve.ensures.items) in
    let x : ℕ → Request = λ (n : ℕ). record { id = n + 1; rpc = c.args.rpc; context = c.args.context; input = c.args.input } in
    subst (λ (o : Routes). Makes o new c.args.client (Invoke c.args.rpc c.args.context c.args.input) (CallMade (c.len.result + 1))) c.self.view_is
    (subst (λ (n : ℕ). Makes old new c.args.client (Invoke c.args.rpc c.args.context c.args.input) (CallMade (n + 1))) (sym many)
    (kept.invoke_made old new c.args.client c.args.rpc c.args.context c.args.input c.in-Some.owner (sym c.owner_of.ensures ∙ c.in-Some.is) refl grows
    (λ k. c.in-Ok.ensures.ok k ∙ ap (λ (n : ℕ). if nat_eq c.in-Some.owner k then queue_in old.queues k ++ x n ∷ [] else queue_in old.queues k) many)))
