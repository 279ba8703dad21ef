-- The invariants hold over the new log.
use Rattle.std.proofs.Common.{refl}
use Rattle.sal_history.specs.declared.call.Call.TheVariants.{Invoke}
use Rattle.sal_history.specs.declared.reply.Reply.TheVariants.{CallMade}
use Rattle.sal_hub.specs.declared.call_id.CallId.{CallId}
use Rattle.sal_hub.proofs.Wholes.{whole_routed}
use Rattle.sal_hub.proofs.hub.Hub.invoke.Goals as goal

pub invariant_of-self : goal.invariant_of-self
invariant_of-self c =
    let done = c.invoke.ensures in
    whole_routed c.self.invariant done.service.kept c.args.client (Invoke c.args.rpc c.args.context c.args.input) (λ m. refl)
    c.invoke.new.router (λ (id : CallId). CallMade id.number) c.invoke.result refl refl refl done.service.served done.answer
