use Rattle.std.proofs.Common.{◌≡◌, true, false, refl, ap, sym, ◌∙◌, subst, arith}
use Rattle.sal_rpc.specs.declared.call.RpcCall.TheVariants.{Answer}
use Rattle.sal_rpc.specs.declared.call.RpcFault.TheVariants.{NoCall}
use Rattle.sal_rpc.specs.declared.call.RpcReply.TheVariants.{Accepted}
use Rattle.sal_rpc.specs.Answers.{IsRefused, Makes}
use Rattle.sal_rpc.specs.Routes.{Routes, is_open}
use Rattle.sal_rpc.proofs.Kept as kept
use Rattle.sal_rpc.proofs.router.Router.answer.Goals as goal

pub returns-then-not-is_open : goal.returns-then-not-is_open
returns-then-not-is_open c =
    let old : Routes = record { providers = c.self.inside.providers.entries; requests = c.self.inside.requests.items; queues = c.self.inside.queues.entries } in
    let closed : is_open old.requests c.args.client c.args.id ≡ false = ap (λ l. is_open l c.args.client c.args.id) (sym c.deref.ensures.value) ∙ (let no : is_open c.deref.result.now c.args.client c.args.id ≡ false = grind (arith, c.is_open.ensures, c.if-not-is_open.true) in no) in
    subst (λ (r : Routes). IsRefused r r c.args.client (Answer c.args.id c.args.output) (NoCall c.args.id)) c.self.view_is
    (record { made = kept.answer_refused old c.args.client c.args.id c.args.output closed; same = refl })

pub returns : goal.returns
returns c =
    let old : Routes = record { providers = c.self.inside.providers.entries; requests = c.self.inside.requests.items; queues = c.self.inside.queues.entries } in
    let new : Routes = record { providers = c.self.inside.providers.entries; requests = c.put_answer.new.requests.items; queues = c.self.inside.queues.entries } in
    let opened : is_open old.requests c.args.client c.args.id ≡ true = ap (λ l. is_open l c.args.client c.args.id) (sym c.deref.ensures.value) ∙ (let yes : is_open c.deref.result.now c.args.client c.args.id ≡ true = grind (arith, c.is_open.ensures, c.if-not-is_open.false) in yes) in
    subst (λ (o : Routes). Makes o new c.args.client (Answer c.args.id c.args.output) Accepted) c.self.view_is
    (kept.answer_made old new c.args.client c.args.id c.args.output opened refl refl c.put_answer.ensures)
