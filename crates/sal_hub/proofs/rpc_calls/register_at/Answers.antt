-- The router has the call that begins or ends the registration.
use Rattle.std.proofs.Common.{false, sym, subst}
use Rattle.sal_rpc.specs.declared.call.RpcReply.TheVariants as given
use Rattle.sal_rpc.specs.Answers.{Answers}
use Rattle.sal_hub.specs.Routed.{registering}
use Rattle.sal_hub.proofs.Routed.{always_answers}
use Rattle.sal_hub.proofs.rpc_calls.register_at.Goals as goal

pub returns-then-registration : goal.returns-then-registration
returns-then-registration c =
    let r = c.args.registration in
    subst (λ b. Answers c.args.router.now c.provide.new.self r.client (registering b r.rpc r.context) (λ _. given.Accepted) c.provide.result) (sym c.if-registration.true) c.provide.ensures

pub returns-else-registration : goal.returns-else-registration
returns-else-registration c =
    let r = c.args.registration in
    subst (λ b. Answers c.args.router.now c.withdraw.new.self r.client (registering b r.rpc r.context) (λ _. given.Accepted) c.withdraw.result) (sym c.if-registration.false)
    (always_answers c.args.router.now c.withdraw.new.self r.client (registering false r.rpc r.context) (λ _. given.Accepted) c.withdraw.result c.withdraw.ensures)
