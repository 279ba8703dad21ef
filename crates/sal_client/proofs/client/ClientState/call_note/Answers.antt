-- The calls for notifications leave the slots as they are.
use Rattle.std.proofs.Common.{refl, ap, sym, subst}
use Rattle.sal_history.specs.declared.call.Call.TheVariants as made
use Rattle.sal_history.specs.declared.reply.Reply.TheVariants as replies
use Rattle.sal_script.specs.Play.{ask}
use Rattle.sal_client.specs.declared.notes.NoteWish.{NoteWish}
use Rattle.sal_client.specs.declared.notes.NoteWish.TheVariants as wishes
use Rattle.sal_client.specs.declared.wish.Wish.TheVariants.{Note}
use Rattle.sal_client.specs.Answers.{IsAnswer}
use Rattle.sal_client.specs.Clients.{client_of}
use Rattle.sal_client.specs.Leaving.{Leaves}
use Rattle.sal_client.proofs.Leaving.{leaves_slots}
use Rattle.sal_client.proofs.client.ClientState.call_note.Goals as goal

pub returns-in-Subscribe : goal.returns-in-Subscribe
returns-in-Subscribe c =
    subst (λ (w : NoteWish). Leaves (Note w) c.args.hub.now c.args.self.now c.subscribe.new.self c.args.self.now c.answer_to.result) (sym c.in-Subscribe.is)
    (leaves_slots (Note (wishes.Subscribe c.in-Subscribe.name c.in-Subscribe.note)) c.args.hub.now c.subscribe.new.self c.args.self.now (made.Subscribe c.in-Subscribe.note) (c.tokens_last.ensures.begun, c.tokens_last.ensures.given, c.tokens_last.ensures.opened, c.tokens_last.ensures.called) refl c.requires.sound (λ tables read. ap (λ o. ask o (client_of c.args.self.now)) read) (λ r. refl)
    (λ _. replies.Accepted) c.subscribe.result c.answer_to.result c.subscribe.ensures.answer (subst (λ q. IsAnswer q c.answer_to.result) c.accepted.ensures c.answer_to.ensures))

pub returns-in-Offer : goal.returns-in-Offer
returns-in-Offer c =
    subst (λ (w : NoteWish). Leaves (Note w) c.args.hub.now c.args.self.now c.offer.new.self c.args.self.now c.answer_to-in-Offer.result) (sym c.in-Offer.is)
    (leaves_slots (Note (wishes.Offer c.in-Offer.name c.in-Offer.value c.in-Offer.note c.in-Offer.rows)) c.args.hub.now c.offer.new.self c.args.self.now (made.Offer c.in-Offer.note c.in-Offer.rows) (c.tokens_last.ensures.begun, c.tokens_last.ensures.given, c.tokens_last.ensures.opened, c.tokens_last.ensures.called) refl c.requires.sound (λ tables read. ap (λ o. ask o (client_of c.args.self.now)) read) (λ r. refl)
    (λ count. replies.Offered count) c.offer.result c.answer_to-in-Offer.result c.offer.ensures.answer (subst (λ q. IsAnswer q c.answer_to-in-Offer.result) c.offered.ensures c.answer_to-in-Offer.ensures))

pub returns : goal.returns
returns c =
    subst (λ (w : NoteWish). Leaves (Note w) c.args.hub.now c.args.self.now c.take_notes.new.self c.args.self.now c.answer_to-in-TakeNotes.result) (sym c.in-TakeNotes.is)
    (leaves_slots (Note wishes.TakeNotes) c.args.hub.now c.take_notes.new.self c.args.self.now made.TakeNotes (c.tokens_last.ensures.begun, c.tokens_last.ensures.given, c.tokens_last.ensures.opened, c.tokens_last.ensures.called) refl c.requires.sound (λ tables read. refl) (λ r. refl)
    (λ list. replies.Notes list) c.take_notes.result c.answer_to-in-TakeNotes.result c.take_notes.ensures.answer (subst (λ q. IsAnswer q c.answer_to-in-TakeNotes.result) c.notes.ensures c.answer_to-in-TakeNotes.ensures))
