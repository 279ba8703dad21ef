use Rattle.std.proofs.Common.{refl, subst}
use Rattle.sal_note.specs.declared.call.NoteCall.TheVariants.{TakeNotes}
use Rattle.sal_note.specs.declared.call.NoteReply.TheVariants.{Notes}
use Rattle.sal_note.specs.Answers.{Makes}
use Rattle.sal_note.specs.Boxes.{Boxes}
use Rattle.sal_note.proofs.Kept.{take_made}
use Rattle.sal_note.proofs.notes.Notes.take_notes.Goals as goal

pub returns : goal.returns
returns c =
    let old : Boxes = record { subscribed = c.self.inside.subscribed.entries; queues = c.self.inside.queues.entries } in
    let new : Boxes = record { subscribed = c.self.inside.subscribed.entries; queues = c.take_all.new.queues.entries } in
    subst (λ (o : Boxes). Makes o new c.args.client TakeNotes (Notes c.take_all.result)) c.self.view_is (take_made old new c.args.client c.take_all.result refl c.take_all.ensures.list c.take_all.ensures.queues c.take_all.ensures.boxes)
