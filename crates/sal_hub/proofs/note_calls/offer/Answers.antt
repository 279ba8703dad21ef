-- The entry is the log's next, and the service has its call.
use Rattle.sal_note.specs.declared.call.NoteCall.TheVariants as notes
use Rattle.sal_note.specs.declared.call.NoteReply.TheVariants as replies
use Rattle.sal_hub.proofs.Notified.{entered_call, failed_call}
use Rattle.sal_hub.proofs.note_calls.offer.Goals as goal

pub returns-in-Ok-offer : goal.returns-in-Ok-offer
returns-in-Ok-offer c =
    let entered = entered_call c.requires.service c.enter_offer.new.journal c.offer.new.self c.args.offering.client (notes.Offer c.args.offering.note c.args.offering.rows) c.in-Ok.ensures.log c.in-Ok.ensures.marks (replies.Offered c.in-Ok-offer.count) c.requires.room c.in-Ok-offer.ensures in
    record { service = entered.service; answer = entered.answer }

pub returns-in-Err-offer : goal.returns-in-Err-offer
returns-in-Err-offer c =
    let failed = failed_call c.requires.service c.enter_offer.new.journal c.offer.new.self c.args.offering.client (notes.Offer c.args.offering.note c.args.offering.rows) c.in-Ok.ensures.log c.in-Ok.ensures.marks c.in-Ok.ensures.undo c.in-Err-offer.fault c.failed.result c.failed.ensures.fault c.failed.new.journal c.failed.ensures.journal c.requires.room c.in-Err-offer.ensures in
    record { service = failed.service; answer = failed.answer }
