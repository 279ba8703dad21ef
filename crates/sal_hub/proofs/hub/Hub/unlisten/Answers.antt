-- The invariants hold over the new log.
use Rattle.std.proofs.Common.{refl}
use Rattle.sal_history.specs.declared.call.Call.TheVariants.{Unlisten}
use Rattle.sal_history.specs.declared.reply.Reply.TheVariants.{Accepted}
use Rattle.sal_hub.proofs.Wholes.{whole_heard}
use Rattle.sal_hub.proofs.hub.Hub.unlisten.Goals as goal

pub invariant_of-self : goal.invariant_of-self
invariant_of-self c =
    let done = c.unlisten.ensures in
    whole_heard c.self.invariant done.kept c.args.client (Unlisten c.args.id.number) (λ m. refl)
    c.unlisten.new.self (λ u. Accepted) c.unlisten.result refl done.listeners done.answer (λ r. refl) (λ r id. refl) (λ r id. refl) (λ r. refl)
