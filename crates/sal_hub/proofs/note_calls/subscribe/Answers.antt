-- The entry is the log's next, and the service has its call.
use Rattle.sal_note.specs.declared.call.NoteCall.TheVariants as notes
use Rattle.sal_note.specs.declared.call.NoteReply.TheVariants as replies
use Rattle.sal_hub.proofs.Notified.{entered_call, failed_call, has_room}
use Rattle.sal_hub.proofs.note_calls.subscribe.Goals as goal

pub subscribe-requires : goal.subscribe-requires
subscribe-requires c = has_room c.args.journal.now c.args.pipeline.now c.args.notes.now c.requires.service.served c.requires.room

pub returns-in-Ok-subscribe : goal.returns-in-Ok-subscribe
returns-in-Ok-subscribe c =
    let entered = entered_call c.requires.service c.add.new.self c.subscribe.new.self c.args.client (notes.Subscribe c.args.note) c.in-Ok.ensures.log c.in-Ok.ensures.marks replies.Accepted c.requires.room c.in-Ok-subscribe.ensures in
    record { service = entered.service; answer = entered.answer }

pub returns-in-Err-subscribe : goal.returns-in-Err-subscribe
returns-in-Err-subscribe c =
    let failed = failed_call c.requires.service c.add.new.self c.subscribe.new.self c.args.client (notes.Subscribe c.args.note) c.in-Ok.ensures.log c.in-Ok.ensures.marks c.in-Ok.ensures.undo c.in-Err-subscribe.fault c.failed.result c.failed.ensures.fault c.failed.new.journal c.failed.ensures.journal c.requires.room c.in-Err-subscribe.ensures in
    record { service = failed.service; answer = failed.answer }
