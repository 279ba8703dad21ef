use Rattle.std.proofs.Common.{sym, ◌∙◌, subst}
use Rattle.std.specs.declared.result.Result.{Result}
use Rattle.sal_note.specs.declared.call.NoteCall.TheVariants.{Subscribe}
use Rattle.sal_note.specs.declared.call.NoteFault.{NoteFault}
use Rattle.sal_note.specs.declared.call.NoteReply.TheVariants.{Accepted}
use Rattle.sal_note.specs.Answers.{Answers, Makes}
use Rattle.sal_note.specs.Boxes.{Boxes, HasRoom}
use Rattle.sal_note.proofs.Kept.{subscribe_made}
use Rattle.sal_note.proofs.notes.Notes.subscribe.Goals as goal
use Rattle.sal_note.proofs.notes.Notes.subscribe.Goals.{in-Ok, in-Err}

pub subscribe-requires : goal.subscribe-requires
subscribe-requires c = record { room = subst (λ (b : Boxes). HasRoom b.subscribed) (sym c.self.view_is) c.requires }

pub returns : goal.returns
returns c =
    let old : Boxes = record { subscribed = c.self.inside.subscribed.entries; queues = c.self.inside.queues.entries } in
    let new : Boxes = record { subscribed = c.subscribe.new.subscribed.entries; queues = c.subscribe.new.queues.entries } in
    elim c.match-subscribe.branch [
      | in-Ok w ↦ subst (λ (r : Result (Unit {0}) NoteFault). Answers c.args.self.now new c.args.client (Subscribe c.args.note) (λ _. Accepted) r) (sym w.result-is)
          (subst (λ (o : Boxes). Makes o new c.args.client (Subscribe c.args.note) Accepted) c.self.view_is
          (subscribe_made old new c.args.client c.args.note w.in-Ok.ensures.clients w.in-Ok.ensures.queues w.in-Ok.ensures.boxes))
      | in-Err w ↦ subst (λ (r : Result (Unit {0}) NoteFault). Answers c.args.self.now new c.args.client (Subscribe c.args.note) (λ _. Accepted) r) (sym w.result-is)
          ((λ i. record { subscribed = w.in-Err.ensures.same_clients i; queues = w.in-Err.ensures.same_queues i }) ∙ c.self.view_is)
    ]
