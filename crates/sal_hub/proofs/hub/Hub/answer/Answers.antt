-- The invariants hold over the new log.
use Rattle.std.proofs.Common.{refl}
use Rattle.sal_history.specs.declared.call.Call.TheVariants.{Answer}
use Rattle.sal_history.specs.declared.reply.Reply.TheVariants.{Accepted}
use Rattle.sal_hub.proofs.Wholes.{whole_routed}
use Rattle.sal_hub.proofs.hub.Hub.answer.Goals as goal

pub invariant_of-self : goal.invariant_of-self
invariant_of-self c =
    let done = c.answer.ensures in
    whole_routed c.self.invariant done.service.kept c.args.client (Answer c.args.id c.args.output) (λ m. refl)
    c.answer.new.router (λ u. Accepted) c.answer.result refl refl refl done.service.served done.answer
