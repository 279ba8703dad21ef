-- The invariants hold over the new log.
use Rattle.std.proofs.Common.{refl}
use Rattle.sal_history.specs.declared.call.Call.TheVariants.{Subscribe}
use Rattle.sal_history.specs.declared.reply.Reply.TheVariants.{Accepted}
use Rattle.sal_hub.proofs.Wholes.{whole_noted}
use Rattle.sal_hub.proofs.hub.Hub.subscribe.Goals as goal

pub invariant_of-self : goal.invariant_of-self
invariant_of-self c =
    let done = c.subscribe.ensures in
    whole_noted c.self.invariant done.service.kept c.args.client (Subscribe c.args.note) (λ m. refl)
    c.subscribe.new.notes (λ u. Accepted) c.subscribe.result refl refl refl done.service.served done.answer
