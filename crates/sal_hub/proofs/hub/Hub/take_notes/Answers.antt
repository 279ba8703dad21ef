-- The invariants hold over the new log.
use Rattle.std.proofs.Common.{refl}
use Rattle.sal_history.specs.declared.call.Call.TheVariants.{TakeNotes}
use Rattle.sal_history.specs.declared.reply.Reply.TheVariants.{Notes}
use Rattle.sal_hub.proofs.Wholes.{whole_noted}
use Rattle.sal_hub.proofs.hub.Hub.take_notes.Goals as goal

pub invariant_of-self : goal.invariant_of-self
invariant_of-self c =
    let done = c.take_notes.ensures in
    whole_noted c.self.invariant done.service.kept c.args.client TakeNotes (λ m. refl)
    c.take_notes.new.notes Notes c.take_notes.result refl refl refl done.service.served done.answer
