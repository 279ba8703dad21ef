-- The entry is the log's next, and the service has its call.
use Rattle.sal_note.specs.declared.call.NoteCall.TheVariants as notes
use Rattle.sal_note.specs.declared.call.NoteReply.TheVariants as replies
use Rattle.sal_hub.proofs.Notified.{entered_call}
use Rattle.sal_hub.proofs.note_calls.take_notes.Goals as goal

pub returns : goal.returns
returns c =
    let entered = entered_call c.requires.service c.add.new.self c.take_notes-list.new.self c.args.client notes.TakeNotes c.in-Ok.ensures.log c.in-Ok.ensures.marks (replies.Notes c.take_notes-list.result) c.requires.room c.take_notes-list.ensures in
    record { service = entered.service; answer = entered.answer }
