use Rattle.std.proofs.Common.{◌≡◌, ℕ, true, false, refl, subst, arith, nat_eq}
use Rattle.std.specs.Option.{option_map_or}
use Rattle.sal_rpc.specs.declared.call.RpcCall.TheVariants.{Withdraw}
use Rattle.sal_rpc.specs.declared.call.RpcFault.TheVariants.{NoProvider}
use Rattle.sal_rpc.specs.declared.call.RpcReply.TheVariants.{Accepted}
use Rattle.sal_rpc.specs.Answers.{IsRefused, Makes}
use Rattle.sal_rpc.specs.Routes.{Routes, provider_in, service}
use Rattle.sal_rpc.proofs.Kept as kept
use Rattle.sal_rpc.proofs.router.Router.withdraw.Goals as goal
use Rattle.sal_rpc.proofs.Services.{own-of}

pub returns-then-not-provides : goal.returns-then-not-provides
returns-then-not-provides c =
    let old : Routes = record { providers = c.self.inside.providers.entries; requests = c.self.inside.requests.items; queues = c.self.inside.queues.entries } in
    let other : option_map_or (λ (x : ℕ). nat_eq x c.args.client) (provider_in old.providers (service c.args.rpc c.args.context)) false ≡ false = grind (arith, c.provides.ensures, c.if-not-provides.true) in
    subst (λ (r : Routes). IsRefused r r c.args.client (Withdraw c.args.rpc c.args.context) (NoProvider c.args.rpc)) c.self.view_is
    (record { made = kept.withdraw_refused old c.args.client c.args.rpc c.args.context other; same = refl })

pub returns : goal.returns
returns c =
    let old : Routes = record { providers = c.self.inside.providers.entries; requests = c.self.inside.requests.items; queues = c.self.inside.queues.entries } in
    let new : Routes = record { providers = c.unregister.new.providers.entries; requests = c.self.inside.requests.items; queues = c.self.inside.queues.entries } in
    let own : option_map_or (λ (x : ℕ). nat_eq x c.args.client) (provider_in old.providers (service c.args.rpc c.args.context)) false ≡ true = grind (arith, c.provides.ensures, c.if-not-provides.false) in
    subst (λ (o : Routes). Makes o new c.args.client (Withdraw c.args.rpc c.args.context) Accepted) c.self.view_is
    (kept.withdraw_made old new c.args.client c.args.rpc c.args.context refl refl (own-of _ c.args.client own) c.unregister.ensures)
