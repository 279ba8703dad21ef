-- One more client is taken in.
use Rattle.std.proofs.Common.{◌≡◌, List, length, ap, ◌∙◌, subst}
use mathlib.Core.List.{IsPrefix}
use Rattle.sal_history.specs.World.{Domain}
use Rattle.sal_history.specs.declared.call.Entry.{Entry}
use Rattle.sal_turn.specs.Seats.{Place}
use Rattle.sal_turn.specs.Views.{both}
use Rattle.std.proofs.lemmas.Iterator.Consumers.{YieldsList-turn}
use Rattle.std.proofs.lemmas.Iterator.Adapters.{YieldsList-from_vec}
use Rattle.sal_run.proofs.Everyone.{at_index, collects_more, joins_more}
use Rattle.sal_run.proofs.joined.join_all.Goals as goal

pub seat_in-requires : goal.seat_in-requires
seat_in-requires c =
    let turn = YieldsList-turn (YieldsList-from_vec {s = c.into_iter-run-iterator.result} c.args.finished.items (cc) (c.into_iter-run-iterator.ensures.into_iter_gives.1 ∙ c.args.finished.ok.0)) c.loop-run.yielded c.loop-run.run-iterator c.loop-run.yielded_by c.next.result c.next.new.self c.in-Some.field-0 c.in-Some.is c.next.ensures.steps in
    let f = c.in-Some.field-0 in
    (c.requires.others (length c.loop-run.yielded) f (at_index c.args.finished.items (length c.loop-run.yielded) f turn.0 turn.1)).0

pub join-seat-requires : goal.join-seat-requires
join-seat-requires c =
    let turn = YieldsList-turn (YieldsList-from_vec {s = c.into_iter-run-iterator.result} c.args.finished.items (cc) (c.into_iter-run-iterator.ensures.into_iter_gives.1 ∙ c.args.finished.ok.0)) c.loop-run.yielded c.loop-run.run-iterator c.loop-run.yielded_by c.next.result c.next.new.self c.in-Some.field-0 c.in-Some.is c.next.ensures.steps in
    let f = c.in-Some.field-0 in
    let other = c.requires.others (length c.loop-run.yielded) f (at_index c.args.finished.items (length c.loop-run.yielded) f turn.0 turn.1) in
    record { locks = (c.loop-run.invariant.joins.lock, ap (λ (p : Place Entry (List Domain)). p.lock) c.seat_in.ensures ∙ other.1) }

pub loop-run-preserved : goal.loop-run-preserved
loop-run-preserved c =
    let turn = YieldsList-turn (YieldsList-from_vec {s = c.into_iter-run-iterator.result} c.args.finished.items (cc) (c.into_iter-run-iterator.ensures.into_iter_gives.1 ∙ c.args.finished.ok.0)) c.loop-run.yielded c.loop-run.run-iterator c.loop-run.yielded_by c.next.result c.next.new.self c.in-Some.field-0 c.in-Some.is c.next.ensures.steps in
    let f = c.in-Some.field-0 in
    let other = c.requires.others (length c.loop-run.yielded) f (at_index c.args.finished.items (length c.loop-run.yielded) f turn.0 turn.1) in
    let joined = c.join-seat.ensures in
    let is = c.seat_in.ensures in
    let q = c.join-seat.result in
    record {
      joins = joins_more c.args.sal.now c.args.seat.view c.loop-run.yielded f c.loop-run.seat q other.2 joined.joined.0 (subst (λ (p : Place Entry (List Domain)). q.view ≡ both c.loop-run.seat.view p.view) is joined.joined.1) joined.first
          (subst (λ (p : Place Entry (List Domain)). IsPrefix p.view.seen q.view.seen) is joined.second) c.loop-run.invariant.joins;
      collects = collects_more c.loop-run.yielded f c.loop-run.replies c.with_next-replies.result c.with_next-replies.ensures c.loop-run.invariant.collects;
    }
