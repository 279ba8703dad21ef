-- The invariants hold over the new log.
use Rattle.std.proofs.Common.{refl}
use Rattle.sal_history.specs.declared.call.Call.TheVariants.{Offer}
use Rattle.sal_history.specs.declared.reply.Reply.TheVariants.{Offered}
use Rattle.sal_hub.proofs.Wholes.{whole_noted}
use Rattle.sal_hub.proofs.hub.Hub.offer.Goals as goal

pub invariant_of-self : goal.invariant_of-self
invariant_of-self c =
    let done = c.offer.ensures in
    whole_noted c.self.invariant done.service.kept c.args.client (Offer c.args.note c.args.rows) (λ m. refl)
    c.offer.new.notes (λ count. Offered count) c.offer.result refl refl refl done.service.served done.answer
