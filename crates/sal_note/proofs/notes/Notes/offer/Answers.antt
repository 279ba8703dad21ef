use Rattle.std.proofs.Common.{◌≡◌, ℕ, List, Some, None, length, refl, ap, sym, ◌∙◌, subst}
use Rattle.sal_note.specs.declared.call.Note.{Note}
use Rattle.sal_note.specs.declared.call.NoteCall.TheVariants.{Offer}
use Rattle.sal_note.specs.declared.call.NoteFault.TheVariants.{NoteRejected}
use Rattle.sal_note.specs.declared.call.NoteReply.TheVariants.{Offered}
use Rattle.sal_note.specs.Answers.{IsRefused, Makes}
use Rattle.sal_note.specs.Boxes.{Ascend, Boxes, clients_in, first_full, given}
use Rattle.sal_note.proofs.Kept.{offer_made, offer_refused}
use Rattle.sal_note.proofs.notes.Notes.offer.Goals as goal

pub returns-in-Some : goal.returns-in-Some
returns-in-Some c =
    let old : Boxes = record { subscribed = c.self.inside.subscribed.entries; queues = c.self.inside.queues.entries } in
    let full : first_full old.queues (clients_in old.subscribed c.args.note) ≡ Some c.in-Some.subscriber = ap (first_full old.queues) (sym c.clients_of-clients.ensures.all) ∙ sym c.first_full.ensures ∙ c.in-Some.is in
    subst (λ (b : Boxes). IsRefused b b c.args.client (Offer c.args.note c.args.rows) (NoteRejected c.in-Some.subscriber)) c.self.view_is
    (record { made = offer_refused old c.args.client c.args.note c.args.rows c.in-Some.subscriber full; same = refl })

pub returns-in-Ok : goal.returns-in-Ok
returns-in-Ok c =
    let old : Boxes = record { subscribed = c.self.inside.subscribed.entries; queues = c.self.inside.queues.entries } in
    let new : Boxes = record { subscribed = c.self.inside.subscribed.entries; queues = c.give_all.new.queues.entries } in
    let note : Note = record { note = c.args.note; rows = c.args.rows } in
    let all : c.clients_of-clients.result.now ≡ clients_in old.subscribed c.args.note = c.clients_of-clients.ensures.all in
    let free : first_full old.queues (clients_in old.subscribed c.args.note) ≡ None = ap (first_full old.queues) (sym all) ∙ sym c.first_full.ensures ∙ c.in_default.is in
    subst (λ (o : Boxes). Makes o new c.args.client (Offer c.args.note c.args.rows) (Offered (length c.clients_of-clients.result.now))) c.self.view_is
    (subst (λ (cs : List ℕ). Makes old new c.args.client (Offer c.args.note c.args.rows) (Offered (length cs))) (sym all)
    (offer_made old new c.args.client c.args.note c.args.rows refl (c.in-Ok.ensures.ok ∙ ap (given note old.queues) all) (subst Ascend all c.clients_of-clients.ensures.ascend) free))
