use Rattle.std.proofs.Common.{◌≡◌, true, false, refl, ap, sym, ◌∙◌, subst, arith}
use Rattle.std.specs.Option.{option_and_then}
use Rattle.sal_rpc.specs.declared.call.RpcCall.TheVariants.{Collect}
use Rattle.sal_rpc.specs.declared.call.RpcFault.TheVariants.{NoCall}
use Rattle.sal_rpc.specs.declared.routes.Sent.{Sent}
use Rattle.sal_rpc.specs.Answers.{IsRefused, Makes}
use Rattle.sal_rpc.specs.Routes.{Routes, is_by, sent_at}
use Rattle.sal_rpc.specs.Routing.{output}
use Rattle.sal_rpc.proofs.Kept as kept
use Rattle.sal_rpc.proofs.router.Router.collect.Goals as goal

pub returns-then-not-is_by : goal.returns-then-not-is_by
returns-then-not-is_by c =
    let old : Routes = record { providers = c.self.inside.providers.entries; requests = c.self.inside.requests.items; queues = c.self.inside.queues.entries } in
    let other : is_by old.requests c.args.client c.args.id ≡ false = ap (λ l. is_by l c.args.client c.args.id) (sym c.deref.ensures.value) ∙ (let no : is_by c.deref.result.now c.args.client c.args.id ≡ false = grind (arith, c.is_by.ensures, c.if-not-is_by.true) in no) in
    subst (λ (r : Routes). IsRefused r r c.args.client (Collect c.args.id) (NoCall c.args.id)) c.self.view_is
    (record { made = kept.collect_refused old c.args.client c.args.id other; same = refl })

pub returns-in-Ok : goal.returns-in-Ok
returns-in-Ok c =
    let old : Routes = record { providers = c.self.inside.providers.entries; requests = c.self.inside.requests.items; queues = c.self.inside.queues.entries } in
    let own : is_by old.requests c.args.client c.args.id ≡ true = ap (λ l. is_by l c.args.client c.args.id) (sym c.deref.ensures.value) ∙ (let yes : is_by c.deref.result.now c.args.client c.args.id ≡ true = grind (arith, c.is_by.ensures, c.if-not-is_by.false) in yes) in
    subst (λ (r : Routes). Makes r r c.args.client (Collect c.args.id) (output c.in-Ok.rows)) c.self.view_is
    (kept.collect_made old c.args.client c.args.id c.in-Ok.rows own (c.in-Ok.ensures ∙ ap (λ l. option_and_then (λ (s : Sent). s.answer) (sent_at l c.args.id)) c.deref-2.ensures.value))
