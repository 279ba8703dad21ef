-- The try that ended in a conflict is one more.
use Rattle.std.proofs.Common.{rules, ◌≡◌, true}
use Rattle.sal_update.specs.Updates.{is_conflict}
use Rattle.sal_update.proofs.Onward.{one_more}
use Rattle.sal_update.proofs.retry.update.Goals as goal

pub loop-done-preserved : goal.loop-done-preserved
loop-done-preserved g c =
    let conflict : is_conflict c.in-Ok.outcome ≡ true = search rules in
    record {
      keeps = search rules;
      before = one_more g.W.Work.gives c.args.tries c.loop-done._done c.args.seat.now.view c.loop-done.seat.view c.try_once.new.seat.view c.args.work.now c.loop-done.work c.try_once.new.work c.in-Ok.outcome c.loop-done.invariant.before
          c.in-Ok.ensures.tried conflict;
    }
