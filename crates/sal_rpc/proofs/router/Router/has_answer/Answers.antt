use Rattle.std.proofs.Common.{◌≡◌, Bool, true, false, ap, sym, ◌∙◌, subst}
use Rattle.std.specs.Prelude.{is_some}
use Rattle.std.specs.Option.{option_and_then}
use Rattle.sal_rpc.specs.declared.call.RpcCall.TheVariants.{Collect}
use Rattle.sal_rpc.specs.declared.routes.Sent.{Sent}
use Rattle.sal_rpc.specs.Answers.{Gives}
use Rattle.sal_rpc.specs.Routes.{Routes, is_by, sent_at}
use Rattle.sal_rpc.proofs.Kept as kept
use Rattle.sal_rpc.proofs.router.Router.has_answer.Goals as goal

pub returns-then-is_by : goal.returns-then-is_by
returns-then-is_by c =
    let old : Routes = record { providers = c.self.inside.providers.entries; requests = c.self.inside.requests.items; queues = c.self.inside.queues.entries } in
    let own : is_by old.requests c.args.client c.args.id ≡ true = ap (λ l. is_by l c.args.client c.args.id) (sym c.deref.ensures.value) ∙ sym c.is_by.ensures ∙ c.if-is_by.true in
    let answered : is_some (option_and_then (λ (s : Sent). s.answer) (sent_at old.requests c.args.id)) ≡ c.is_answered.result = sym (c.is_answered.ensures ∙ ap (λ l. is_some (option_and_then (λ (s : Sent). s.answer) (sent_at l c.args.id))) c.deref-then-is_by.ensures.value) in
    subst (λ (r : Routes). Gives r c.args.client (Collect c.args.id) c.is_answered.result) c.self.view_is
    (subst (λ (b : Bool). Gives old c.args.client (Collect c.args.id) b) answered (kept.collect_gives old c.args.client c.args.id own))

pub returns-else-is_by : goal.returns-else-is_by
returns-else-is_by c =
    let old : Routes = record { providers = c.self.inside.providers.entries; requests = c.self.inside.requests.items; queues = c.self.inside.queues.entries } in
    let other : is_by old.requests c.args.client c.args.id ≡ false = ap (λ l. is_by l c.args.client c.args.id) (sym c.deref.ensures.value) ∙ sym c.is_by.ensures ∙ c.if-is_by.false in
    subst (λ (r : Routes). Gives r c.args.client (Collect c.args.id) c.is_by.result) c.self.view_is
    (subst (λ (b : Bool). Gives old c.args.client (Collect c.args.id) b) (sym c.if-is_by.false) (kept.collect_gives_none old c.args.client c.args.id other))
