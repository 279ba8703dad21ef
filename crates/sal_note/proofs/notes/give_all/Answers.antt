use Rattle.std.proofs.Common.{get_or, take, ap, sym, ◌∙◌}
use Rattle.std.proofs.lemmas.List.{take_more}
use Rattle.sal_note.specs.Boxes.{give_one, given, taken_back}
use Rattle.sal_note.proofs.Boxed.{all-taken, given-more}
use Rattle.sal_note.proofs.notes.give_all.Goals as goal

pub returns-in-Err-clause-err : goal.returns-in-Err-clause-err
returns-in-Err-clause-err c = c.take_back.ensures ∙ ap (λ es. taken_back es (take c.loop-i.i c.args.clients.now)) (c.in-Err.ensures.err ∙ c.loop-i.invariant) ∙ all-taken c.args.note.now c.args.queues.now.entries (take c.loop-i.i c.args.clients.now)

pub loop-i-preserved : goal.loop-i-preserved
loop-i-preserved c =
    c.in-Ok.ensures.ok ∙ ap (λ es. give_one c.args.note.now es (get_or c.args.clients.now c.loop-i.i 0)) c.loop-i.invariant
    ∙ sym (given-more c.args.note.now c.args.queues.now.entries (take c.loop-i.i c.args.clients.now) (get_or c.args.clients.now c.loop-i.i 0))
    ∙ ap (given c.args.note.now c.args.queues.now.entries) (sym (take_more c.args.clients.now c.loop-i.i 0 c.loop-i-test.true))
