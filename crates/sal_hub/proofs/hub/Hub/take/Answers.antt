-- The invariants hold over the new log.
use Rattle.std.proofs.Common.{refl}
use Rattle.sal_rows.specs.declared.batch.Batch.{Batch}
use Rattle.sal_history.specs.declared.call.Call.TheVariants.{Take}
use Rattle.sal_history.specs.declared.reply.Reply.TheVariants.{Batch as Told}
use Rattle.sal_hub.proofs.Wholes.{whole_heard}
use Rattle.sal_hub.proofs.hub.Hub.take.Goals as goal

pub invariant_of-self : goal.invariant_of-self
invariant_of-self c =
    let done = c.take.ensures in
    whole_heard c.self.invariant done.kept c.args.client (Take c.args.id.number) (λ m. refl)
    c.take.new.self (λ (b : Batch). Told c.args.id.domain b) c.take.result refl done.listeners done.answer (λ r. refl) (λ r id. refl) (λ r id. refl) (λ r. refl)
