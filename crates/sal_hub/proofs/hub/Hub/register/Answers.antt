-- The invariants hold over the new log.
use Rattle.sal_history.specs.declared.reply.Reply.TheVariants.{Accepted}
use Rattle.sal_hub.specs.Routed.{registering, shared}
use Rattle.sal_hub.proofs.Routed.{serving, unmarking, unmounting, unnoting}
use Rattle.sal_hub.proofs.Wholes.{whole_routed}
use Rattle.sal_hub.proofs.hub.Hub.register.Goals as goal

pub invariant_of-self : goal.invariant_of-self
invariant_of-self c =
    let done = c.register.ensures in
    let asked = registering c.args.registration.begins c.args.registration.rpc c.args.registration.context in
    whole_routed c.self.invariant done.service.kept c.args.registration.client (shared asked) (unmarking asked)
    c.register.new.router (λ u. Accepted) c.register.result (serving asked) (unmounting asked) (unnoting asked) done.service.served done.answer
