use Rattle.std.proofs.Common.{◌-◌, get_or, arith, ap, sym, ◌∙◌}
use Rattle.sal_note.specs.Boxes.{take_one, taken_back}
use Rattle.sal_note.proofs.Boxed.{last-dropped}
use Rattle.sal_note.proofs.notes.take_back.Goals as goal

pub loop-left-preserved : goal.loop-left-preserved
loop-left-preserved c = record {
  within = omega arith;
  taken = c.drop_last.ensures ∙ ap (λ es. take_one es (get_or c.args.clients.now (c.loop-left.left - 1) 0)) c.loop-left.invariant.taken ∙ sym (ap (taken_back c.args.queues.now.entries) (last-dropped c.args.clients.now c.loop-left.left c.loop-left-test.true c.loop-left.invariant.within));
}
