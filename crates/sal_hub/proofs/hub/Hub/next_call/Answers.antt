-- The invariants hold over the new log.
use Rattle.std.proofs.Common.{refl}
use Rattle.sal_history.specs.declared.call.Call.TheVariants.{NextCall}
use Rattle.sal_hub.specs.Routed.{request_reply}
use Rattle.sal_hub.proofs.Wholes.{whole_routed}
use Rattle.sal_hub.proofs.hub.Hub.next_call.Goals as goal

pub invariant_of-self : goal.invariant_of-self
invariant_of-self c =
    let done = c.next_call.ensures in
    whole_routed c.self.invariant done.service.kept c.args.client NextCall (λ m. refl)
    c.next_call.new.router request_reply c.next_call.result refl refl refl done.service.served done.answer
